-- `outline::home_of`: the state's own automaton, where the drawing has both. Assumes nothing.
use Rattle.std.proofs.Common.{sym, ap, ◌∙◌, arith}
use Rattle.chart.specs.declared.drawing.State.{State}
use Rattle.chart_tree.specs.Outlines.{drawn}
use Rattle.chart_tree.proofs.Drawn.{automata_are, home_read, home_past}
use Rattle.chart_tree.proofs.Homes.{none_in, either_in}
use Rattle.chart_tree.proofs.outline.home_of.Goals as goal

pub returns-in_err-state : goal.returns-in_err-state
returns-in_err-state c =
    let d = c.args.drawing.now in
    let v = c.args.state.0 in
    let past = c.in_err-state.ensures.lookup.3 in
    c.from_residual.ensures ∙ none_in (drawn d) v (omega (arith, home_past d v _ c.as_slice.ensures.value past))

pub returns : goal.returns
returns c =
    let d = c.args.drawing.now in
    let v = c.args.state.0 in
    let found = c.in_ok-state.ensures.lookup in
    let home = home_read d v c.in_ok-state.state.now _ c.as_slice.ensures.value found.3.0 ∙ ap (λ (s : State). s.automaton.0) (sym found.1) in
    c.then_some.ensures ∙ either_in (drawn d) v _ _ home (c.len.ensures.value ∙ sym (automata_are d))
