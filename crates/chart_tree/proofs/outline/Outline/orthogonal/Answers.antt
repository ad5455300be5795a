-- `Outline::orthogonal`: by the state's automaton; to a state in none nothing is orthogonal. Assumes nothing.
use Rattle.std.proofs.Common.{sym, ap, ◌∙◌, arith}
use Rattle.std.proofs.lemmas.Bool.{both_ways}
use Rattle.std.proofs.lemmas.Bool.Decides.{Decides-at}
use Rattle.hierarchy.proofs.Tree.{orthogonal_step}
use Rattle.chart_tree.specs.Outlines.{drawn}
use Rattle.chart_tree.specs.Trees.{tree_beside}
use Rattle.chart_tree.proofs.Drawn.{proper}
use Rattle.chart_tree.proofs.Held.{outlined}
use Rattle.chart_tree.proofs.Homes.{none_out, some_out}
use Rattle.chart_tree.proofs.outline.Outline.orthogonal.Goals as goal

pub returns-in-Some : goal.returns-in-Some
returns-in-Some c rooted w =
    let o = c.args.self.now in
    let v = c.args.state.0 in
    let r = some_out (drawn o.drawing) v c.in-Some.home c.in-Some.ensures in
    Decides-at _ _ (c.beside.ensures w ∙ ap (λ a. tree_beside o.tree a w) (sym r.0)) ((outlined o rooted).beside v w r.1)

pub returns-in-None : goal.returns-in-None
returns-in-None c rooted w =
    let d = c.args.self.now.drawing in
    let v = c.args.state.0 in (
      (λ t. absurd (both_ways _ (c.empty.ensures w) t)),
      λ o. let x = (orthogonal_step (drawn d) rooted v w).0 o in absurd (omega (arith, none_out (drawn d) v c.in-None.ensures, (proper d).parent _ x.0 x.1)),
    )
