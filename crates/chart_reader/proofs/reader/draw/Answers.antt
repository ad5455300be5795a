-- `reader::draw`: the head, the rows, and the end of the text. Assumes nothing.
use Rattle.std.proofs.Common.{◌≡◌, ℕ, ◌<◌, ◌≤◌, false, List, Ok, Err, sym, ap, ◌∙◌, arith}
use Rattle.std.proofs.lemmas.Bool.{eqb-true, eqb-false}
use Rattle.std.proofs.lemmas.Result.{err_from_is_err_and}
use Rattle.fixed.specs.Items.{items}
use Rattle.format.specs.Numbers.{bounds_to, number_exact}
use Rattle.format.specs.Readers.{value_at, in_text, field}
use Rattle.format.specs.Elements.{single_of, number_kind}
use Rattle.format.specs.declared.number.Number.{Number}
use Rattle.format.specs.declared.fault.TextFault.TheVariants.{Trailing}
use Rattle.chart.specs.Kinds.{name_of}
use Rattle.chart.specs.Plans.{plan_of}
use Rattle.chart_text.specs.Counts.{positive_kind, natural_kind}
use Rattle.chart_text.specs.Keys.{key_text}
use Rattle.chart_text.specs.declared.line.Key.{Key}
use Rattle.chart_text.specs.declared.line.Key.TheVariants.{Chart, Events, Automata, States, Transitions}
use Rattle.chart_reader.specs.Verdicts.{one, rows, counted, drawn}
use Rattle.chart_reader.proofs.Exact.{one_exact}
use Rattle.chart_reader.proofs.Steps.{goes_on, stops, head_fault, rows_fault, drawn_done, from_events, from_automata, from_states, from_transitions, ended_well, ended_badly}
use Rattle.chart_reader.proofs.reader.draw.Goals as goal
use Rattle.chart_reader.proofs.reader.draw.Goals.{In_ok-fill}

pub returns-in_err-automata : goal.returns-in_err-automata
returns-in_err-automata c =
    let p = err_from_is_err_and c.from_residual-in_err-automata.result c.from_residual-in_err-automata.ensures.1 in
    let text = c.args.text.now in
    rw (p.1, p.2) (sym (head_fault text _
    (goes_on 1 (field name_of (key_text Chart)) (λ _. from_events) 1 _ text _ _ _ (ap in_text c.in_ok-name.ensures.0) c.in_ok-name.ensures.1
    (goes_on 1 (one positive_kind 65 Events) from_automata _ _ c.field.new.lines.rest.now _ _ _ (ap in_text c.in_ok-events.ensures.0) c.in_ok-events.ensures.1
    (stops 1 (one positive_kind 25 Automata) (from_states c.in_ok-events.events.item) c.field-2.new.lines.number c.field-2.new.lines.rest.now _ (ap in_text c.in_err-automata.ensures))))))

pub returns-in_err-states : goal.returns-in_err-states
returns-in_err-states c =
    let p = err_from_is_err_and c.from_residual-in_err-states.result c.from_residual-in_err-states.ensures.1 in
    let text = c.args.text.now in
    rw (p.1, p.2) (sym (head_fault text _
    (goes_on 1 (field name_of (key_text Chart)) (λ _. from_events) 1 _ text _ _ _ (ap in_text c.in_ok-name.ensures.0) c.in_ok-name.ensures.1
    (goes_on 1 (one positive_kind 65 Events) from_automata _ _ c.field.new.lines.rest.now _ _ _ (ap in_text c.in_ok-events.ensures.0) c.in_ok-events.ensures.1
    (goes_on 1 (one positive_kind 25 Automata) (from_states c.in_ok-events.events.item) _ _ c.field-2.new.lines.rest.now _ _ _ (ap in_text c.in_ok-automata.ensures.0) c.in_ok-automata.ensures.1
    (stops 1 (one positive_kind 65 States) (from_transitions c.in_ok-events.events.item c.in_ok-automata.automata.item) c.field-3.new.lines.number c.field-3.new.lines.rest.now _ (ap in_text c.in_err-states.ensures)))))))

pub returns-in_err-transitions : goal.returns-in_err-transitions
returns-in_err-transitions c =
    let p = err_from_is_err_and c.from_residual-in_err-transitions.result c.from_residual-in_err-transitions.ensures.1 in
    let text = c.args.text.now in
    rw (p.1, p.2) (sym (head_fault text _
    (goes_on 1 (field name_of (key_text Chart)) (λ _. from_events) 1 _ text _ _ _ (ap in_text c.in_ok-name.ensures.0) c.in_ok-name.ensures.1
    (goes_on 1 (one positive_kind 65 Events) from_automata _ _ c.field.new.lines.rest.now _ _ _ (ap in_text c.in_ok-events.ensures.0) c.in_ok-events.ensures.1
    (goes_on 1 (one positive_kind 25 Automata) (from_states c.in_ok-events.events.item) _ _ c.field-2.new.lines.rest.now _ _ _ (ap in_text c.in_ok-automata.ensures.0) c.in_ok-automata.ensures.1
    (goes_on 1 (one positive_kind 65 States) (from_transitions c.in_ok-events.events.item c.in_ok-automata.automata.item) _ _ c.field-3.new.lines.rest.now _ _ _ (ap in_text c.in_ok-states.ensures.0) c.in_ok-states.ensures.1
    (stops 1 (one natural_kind 97 Transitions) (λ k. rows (counted c.in_ok-events.events.item c.in_ok-automata.automata.item c.in_ok-states.states.item) k.0) c.field-4.new.lines.number c.field-4.new.lines.rest.now _ (ap in_text c.in_err-transitions.ensures))))))))

-- what a count says is within its limits
counted_to : (least limit : ℕ) (key : Key) (n : ℕ) (t : List ℕ) {R : Type 0} (x : Number R) (r : List ℕ) → limit ≤ 100
    → value_at (single_of (number_kind least false) limit) (key_text key) n t ≡ Ok (x, r) → x.0 < limit
counted_to least limit key n t x r l h =
    (bounds_to least limit x.0 ((one_exact (number_kind least false) 2 limit key (number_exact least false) (omega arith) l).to n t x r (ap in_text h)).0).1

pub fill-requires-clause-room : goal.fill-requires-clause-room
fill-requires-clause-room c =
    let a = counted_to 1 25 Automata _ c.field-2.new.lines.rest.now _ _ (omega arith) c.in_ok-automata.ensures.0 in
    let s = counted_to 1 65 States _ c.field-3.new.lines.rest.now _ _ (omega arith) c.in_ok-states.ensures.0 in
    let t = counted_to 0 97 Transitions _ c.field-4.new.lines.rest.now _ _ (omega arith) c.in_ok-transitions.ensures.0 in
    record { automata = omega arith; states = omega arith; transitions = omega arith }

pub returns-in_err-fill : goal.returns-in_err-fill
returns-in_err-fill c =
    let p = err_from_is_err_and c.from_residual-in_err-fill.result c.from_residual-in_err-fill.ensures.1 in
    let n1 = c.in_ok-name.ensures.1 in let n2 = c.in_ok-events.ensures.1 in let n3 = c.in_ok-automata.ensures.1 in let n4 = c.in_ok-states.ensures.1 in
    rw (p.1, p.2) (sym (rows_fault c.args.text.now _ _ c.field-3.new.lines.rest.now c.field-4.new.lines.rest.now _ _ _ _ _ _ _ _ _ _
    c.in_ok-name.ensures.0 n1 c.in_ok-events.ensures.0 n2 c.in_ok-automata.ensures.0 n3 c.in_ok-states.ensures.0 n4 c.in_ok-transitions.ensures.0 (omega arith)
    _ c.in_err-fill.ensures))

-- both ends come behind all rows
all_drawn : (c : In_ok-fill) → drawn 1 c.args.text.now ≡ Ok (plan_of c.fill.new.drawing, c.fill.new.lines.rest.now)
all_drawn c =
    let n1 = c.in_ok-name.ensures.1 in let n2 = c.in_ok-events.ensures.1 in let n3 = c.in_ok-automata.ensures.1 in let n4 = c.in_ok-states.ensures.1 in
    drawn_done c.args.text.now _ _ c.field-3.new.lines.rest.now c.field-4.new.lines.rest.now _ _ _ _ _ _ _ _ _ _
    c.in_ok-name.ensures.0 n1 c.in_ok-events.ensures.0 n2 c.in_ok-automata.ensures.0 n3 c.in_ok-states.ensures.0 n4 c.in_ok-transitions.ensures.0 (omega arith)
    c.blank-drawing.result c.fill.new.drawing c.fill.new.lines c.in_ok-fill.ensures
    (ap (λ n. items n.bytes) c.blank-drawing.ensures.head.0) c.blank-drawing.ensures.head.1

pub returns-then-is_empty : goal.returns-then-is_empty
returns-then-is_empty c =
    sym (ended_well c.args.text.now (plan_of c.fill.new.drawing) c.fill.new.lines.rest.now (all_drawn (goal.at.returns-then-is_empty c).In_ok-fill)
    (eqb-true _ 0 (sym c.if-is_empty.ensures)))

pub returns-else-is_empty : goal.returns-else-is_empty
returns-else-is_empty c =
    ap (λ n. Err (Trailing n)) c.in_ok-fill.ensures.number
    ∙ sym (ended_badly c.args.text.now (plan_of c.fill.new.drawing) c.fill.new.lines.rest.now (all_drawn (goal.at.returns-else-is_empty c).In_ok-fill)
    (eqb-false _ 0 (sym c.if-is_empty.ensures)))
