-- `outline::stand_of`: what the automaton's parent says. Assumes nothing.
use Rattle.std.proofs.Common.{◌≡◌, ℕ, ◌≤◌, None, sym, ap, ◌∙◌, subst, arith}
use Rattle.hierarchy.specs.Hierarchies.{Hierarchy, Under}
use Rattle.hierarchy.specs.Meant.{parent_state}
use Rattle.hierarchy.proofs.Tree.{not_some}
use Rattle.chart_tree.specs.Outlines.{drawn, StandGives}
use Rattle.chart_tree.proofs.Drawn.{parent_read, parent_past}
use Rattle.chart_tree.proofs.Homes.{none_out, some_out}
use Rattle.chart_tree.proofs.outline.stand_of.Goals as goal

nowhere : (h : Hierarchy) (a : ℕ) → h.parent a ≡ None → StandGives h a None
nowhere h a e p u = absurd (not_some _ p e u)

outside : (h : Hierarchy) (a s : ℕ) → Under h a s → h.automata ≤ h.home s → StandGives h a None
outside h a s u past p v = let same : p ≡ s = cc in subst (λ z. h.automata ≤ h.home z) (sym same) past

pub returns-in_err-automaton : goal.returns-in_err-automaton
returns-in_err-automaton c =
    let d = c.args.drawing.now in
    let a = c.args.automaton.0 in
    let past = c.in_err-automaton.ensures.lookup.3 in
    subst (λ o. StandGives (drawn d) a o) (sym c.from_residual.ensures) (nowhere (drawn d) a (parent_past d a _ c.as_slice.ensures.value past))

pub returns-in-Top : goal.returns-in-Top
returns-in-Top c =
    let d = c.args.drawing.now in
    let a = c.args.automaton.0 in
    let found = c.in_ok-automaton.ensures.lookup in
    let parent = parent_read d a c.in_ok-automaton.automaton.now _ c.as_slice.ensures.value found.3.0 found.1 in
    nowhere (drawn d) a (parent ∙ ap parent_state c.in-Top.is)

pub returns-in_err-home_of-in-State : goal.returns-in_err-home_of-in-State
returns-in_err-home_of-in-State c =
    let d = c.args.drawing.now in
    let a = c.args.automaton.0 in
    let s = c.in-State.state.0 in
    let found = c.in_ok-automaton.ensures.lookup in
    let parent = parent_read d a c.in_ok-automaton.automaton.now _ c.as_slice.ensures.value found.3.0 found.1 in
    subst (λ o. StandGives (drawn d) a o) (sym c.from_residual-in_err-home_of-in-State.ensures)
    (outside (drawn d) a s (parent ∙ ap parent_state c.in-State.is) (none_out (drawn d) s c.in_err-home_of-in-State.ensures))

pub returns-in_ok-home_of-in-State : goal.returns-in_ok-home_of-in-State
returns-in_ok-home_of-in-State c =
    let d = c.args.drawing.now in
    let a = c.args.automaton.0 in
    let found = c.in_ok-automaton.ensures.lookup in
    let parent = parent_read d a c.in_ok-automaton.automaton.now _ c.as_slice.ensures.value found.3.0 found.1 in
    let r = some_out (drawn d) c.in-State.state.0 c.in_ok-home_of-in-State.field-0 c.in_ok-home_of-in-State.ensures in
    record { under = parent ∙ ap parent_state c.in-State.is; home = r.0; known = omega (arith, r.0, r.1) }
