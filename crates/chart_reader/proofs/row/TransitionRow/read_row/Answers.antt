-- `Transition::read_row`: a fault from the guard on, where the fields before it were read. Assumes nothing.
use Rattle.std.proofs.Common.{ap}
use Rattle.std.proofs.lemmas.Result.{err_from_is_err_and}
use Rattle.format.specs.Readers.{in_text}
use Rattle.chart.specs.Kinds.{state_kind, event_kind, term_kind}
use Rattle.chart_text.specs.declared.line.Key.TheVariants.{If, Do, To, Into}
use Rattle.chart_reader.specs.Verdicts.{one, some}
use Rattle.chart_reader.proofs.Steps.{goes_on, stops, from_to, from_do, guard_decides}
use Rattle.chart_reader.proofs.row.TransitionRow.read_row.Goals as goal

pub returns-in_err-guard : goal.returns-in_err-guard
returns-in_err-guard c =
    let p = err_from_is_err_and c.from_residual-in_err-guard.result c.from_residual-in_err-guard.ensures.1 in
    let k = c.args.counts in
    let s = c.in_ok-source.ensures in let ss = c.in_ok-source_restriction.ensures in let e = c.in_ok-trigger.ensures in
    rw (p.1, p.2) (guard_decides k c.args.lines.now.number _ _ _ c.args.lines.now.rest.now _ _ _ _ _ _ s.0 s.1 ss.0 ss.1 e.0 e.1 _
    (stops 1 (some term_kind 8 k.states If) (λ _. from_do k) c.field-3.new.lines.number c.field-3.new.lines.rest.now _ (ap in_text c.in_err-guard.ensures)))

pub returns-in_err-actions : goal.returns-in_err-actions
returns-in_err-actions c =
    let p = err_from_is_err_and c.from_residual-in_err-actions.result c.from_residual-in_err-actions.ensures.1 in
    let k = c.args.counts in
    let s = c.in_ok-source.ensures in let ss = c.in_ok-source_restriction.ensures in let e = c.in_ok-trigger.ensures in
    rw (p.1, p.2) (guard_decides k c.args.lines.now.number _ _ _ c.args.lines.now.rest.now _ _ _ _ _ _ s.0 s.1 ss.0 ss.1 e.0 e.1 _
    (goes_on 1 (some term_kind 8 k.states If) (λ _. from_do k) _ _ c.field-3.new.lines.rest.now _ _ _ (ap in_text c.in_ok-guard.ensures.0) c.in_ok-guard.ensures.1
    (stops 1 (some event_kind 8 k.events Do) (λ _. from_to k) c.field-4.new.lines.number c.field-4.new.lines.rest.now _ (ap in_text c.in_err-actions.ensures))))

pub returns-in_err-target : goal.returns-in_err-target
returns-in_err-target c =
    let p = err_from_is_err_and c.from_residual-in_err-target.result c.from_residual-in_err-target.ensures.1 in
    let k = c.args.counts in
    let s = c.in_ok-source.ensures in let ss = c.in_ok-source_restriction.ensures in let e = c.in_ok-trigger.ensures in
    rw (p.1, p.2) (guard_decides k c.args.lines.now.number _ _ _ c.args.lines.now.rest.now _ _ _ _ _ _ s.0 s.1 ss.0 ss.1 e.0 e.1 _
    (goes_on 1 (some term_kind 8 k.states If) (λ _. from_do k) _ _ c.field-3.new.lines.rest.now _ _ _ (ap in_text c.in_ok-guard.ensures.0) c.in_ok-guard.ensures.1
    (goes_on 1 (some event_kind 8 k.events Do) (λ _. from_to k) _ _ c.field-4.new.lines.rest.now _ _ _ (ap in_text c.in_ok-actions.ensures.0) c.in_ok-actions.ensures.1
    (stops 1 (one state_kind k.states To) (λ _. some state_kind 24 k.states Into) c.field-5.new.lines.number c.field-5.new.lines.rest.now _ (ap in_text c.in_err-target.ensures)))))

pub returns-in_err-target_determinator : goal.returns-in_err-target_determinator
returns-in_err-target_determinator c =
    let p = err_from_is_err_and c.from_residual-in_err-target_determinator.result c.from_residual-in_err-target_determinator.ensures.1 in
    let k = c.args.counts in
    let s = c.in_ok-source.ensures in let ss = c.in_ok-source_restriction.ensures in let e = c.in_ok-trigger.ensures in
    rw (p.1, p.2) (guard_decides k c.args.lines.now.number _ _ _ c.args.lines.now.rest.now _ _ _ _ _ _ s.0 s.1 ss.0 ss.1 e.0 e.1 _
    (goes_on 1 (some term_kind 8 k.states If) (λ _. from_do k) _ _ c.field-3.new.lines.rest.now _ _ _ (ap in_text c.in_ok-guard.ensures.0) c.in_ok-guard.ensures.1
    (goes_on 1 (some event_kind 8 k.events Do) (λ _. from_to k) _ _ c.field-4.new.lines.rest.now _ _ _ (ap in_text c.in_ok-actions.ensures.0) c.in_ok-actions.ensures.1
    (goes_on 1 (one state_kind k.states To) (λ _. some state_kind 24 k.states Into) _ _ c.field-5.new.lines.rest.now _ _ _ (ap in_text c.in_ok-target.ensures.0) c.in_ok-target.ensures.1
    (ap in_text c.in_err-target_determinator.ensures)))))
