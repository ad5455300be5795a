-- `transition::check_transitions`: one transition after the other. Assumes nothing.
use Rattle.std.proofs.Common.{length, ap, arith}
use Rattle.std.proofs.lemmas.Result.{err_from_is_err_and}
use Rattle.hierarchy.specs.Checks.{transition_fault}
use Rattle.chart_tree.specs.Outlines.{drawn}
use Rattle.chart_rules.proofs.Loops.{found, passed_more, none_left}
use Rattle.chart_rules.proofs.Said.{transitions_are, says}
use Rattle.chart_rules.proofs.transition.check_transitions.Goals as goal

pub returns-in_err-check_transition : goal.returns-in_err-check_transition
returns-in_err-check_transition c rooted =
    let d = c.args.outline.now.drawing in
    let t = c.loop-t.t in
    let n = transitions_are d in
    let all = ap length c.as_slice-transitions.ensures.value in
    let out = err_from_is_err_and c.from_residual.result c.from_residual.ensures.1 in
    let broken = (rw c.new.ensures at c.in_err-check_transition.ensures) rooted (says d t _ _ c.as_slice-transitions.ensures.value c.loop-t-test.true) in
    rw (out.1, out.2) (found (drawn d).transitions (transition_fault (drawn d)) t (c.loop-t.invariant rooted) _ (omega arith) broken)

pub loop-t-preserved : goal.loop-t-preserved
loop-t-preserved c rooted =
    let d = c.args.outline.now.drawing in
    let t = c.loop-t.t in
    passed_more (drawn d).transitions (transition_fault (drawn d)) t (c.loop-t.invariant rooted) _
    ((rw c.new.ensures at c.in_ok-check_transition.ensures) rooted (says d t _ _ c.as_slice-transitions.ensures.value c.loop-t-test.true))

pub returns : goal.returns
returns c rooted =
    let d = c.args.outline.now.drawing in
    let n = transitions_are d in
    none_left (drawn d).transitions (transition_fault (drawn d)) c.loop-t.t (c.loop-t.invariant rooted) (omega (arith, ap length c.as_slice-transitions.ensures.value))
