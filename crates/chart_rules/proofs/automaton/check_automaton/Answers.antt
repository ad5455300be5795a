-- `automaton::check_automaton`: the place, and then the initial state. Assumes nothing.
use Rattle.std.proofs.Common.{ℕ, ◌<◌, ◌∙◌, inl, inr, arith}
use Rattle.std.proofs.lemmas.Bool.Decides.{same_from_decides}
use Rattle.hierarchy.specs.Hierarchies.{Hierarchy, Proper}
use Rattle.hierarchy.specs.Rules.{Placed}
use Rattle.hierarchy.proofs.Checks.{tells_placed, tells_starts}
use Rattle.chart_tree.specs.Outlines.{drawn}
use Rattle.chart_tree.proofs.Drawn.{proper}
use Rattle.chart_rules.proofs.automaton.check_automaton.Goals as goal

placed_known : (h : Hierarchy) → Proper h → (a : ℕ) → Placed h a → a < h.automata
placed_known h proper a p = elim p [ inl x ↦ omega (arith, x.0, x.1) | inr x ↦ proper.parent a x.1.0 x.1.1 ]

pub returns-then-not-starts_inside : goal.returns-then-not-starts_inside
returns-then-not-starts_inside c =
    let d = c.args.drawing.now in
    let h = drawn d in
    let a = c.args.automaton.0 in
    let p = c.is_placed.ensures.0 c.if-not-is_placed.false in
    let at = same_from_decides _ _ (tells_starts h a) (c.starts_inside.ensures (placed_known h (proper d) a p)) in
    rw ((tells_placed h a).1 p, at ∙ c.if-not-starts_inside.true)

pub returns : goal.returns
returns c =
    let d = c.args.drawing.now in
    let h = drawn d in
    let a = c.args.automaton.0 in
    let p = c.is_placed.ensures.0 c.if-not-is_placed.false in
    let at = same_from_decides _ _ (tells_starts h a) (c.starts_inside.ensures (placed_known h (proper d) a p)) in
    rw ((tells_placed h a).1 p, at ∙ c.if-not-starts_inside.false)
