-- `tree::sides_of`: by the state that the automaton stands under. Assumes nothing.
use Rattle.std.proofs.Common.{arith}
use Rattle.std.proofs.lemmas.Bool.{both_ways}
use Rattle.chart_tree.specs.Outlines.{drawn}
use Rattle.chart_tree.proofs.Drawn.{proper}
use Rattle.chart_tree.proofs.Stages.{no_sides, sides_more}
use Rattle.chart_tree.proofs.tree.sides_of.Goals as goal

pub returns-in_default : goal.returns-in_default
returns-in_default c rooted stage sides v w e =
    let d = c.args.drawing.now in
    let a = c.args.automaton.0 in (
      (λ t. absurd (both_ways _ (c.empty.ensures w) t)),
      λ o. absurd (no_sides (drawn d) (proper d) rooted c.args.regions.now stage a v w (λ p u. let lt = rooted.under a p u in omega (arith, c.in_default.ensures p u, lt.0, lt.2)) e o),
    )

pub returns : goal.returns
returns c rooted stage sides v w e =
    let d = c.args.drawing.now in
    sides_more (drawn d) (proper d) rooted c.args.regions.now stage c.args.automaton.0 c.in-Some.stand c.in-Some.ensures c.args.beside.now sides
    c.at-3.result c.at.result c.at-2.result c.without-others.result c.union.result c.at-3.ensures c.at.ensures c.at-2.ensures c.without-others.ensures c.union.ensures v w e
