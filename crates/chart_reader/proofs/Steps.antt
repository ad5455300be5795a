-- The reader's steps: one part read, and the others behind it. Assumes nothing.
use Rattle.std.proofs.Common.{◌≡◌, ℕ, ◌+◌, ◌*◌, List, [], ◌∷◌, map, length, Ok, Err, Result, sym, refl, ap, ◌∙◌, ap₂, arith}
use Rattle.std.proofs.lemmas.List.{map-id}
use Rattle.fixed.specs.Items.{items}
use Rattle.format.specs.Elements.{and_then, single_of, list_of}
use Rattle.format.specs.Readers.{Reader, value_at, in_text, field, both, times, rows_behind, ended}
use Rattle.format.specs.declared.line.Lines.{Lines}
use Rattle.format.specs.declared.fault.TextFault.{TextFault}
use Rattle.format.specs.declared.fault.TextFault.TheVariants.{Trailing}
use Rattle.chart.specs.Ids.{StateId, EventId}
use Rattle.chart.specs.Kinds.{state_kind, event_kind, term_kind, name_of}
use Rattle.chart.specs.declared.drawing.Term.{Term}
use Rattle.chart.specs.Plans.{Plan, TransitionPlan, transition_plan, plan_of}
use Rattle.chart.specs.declared.drawing.Automaton.{Automaton}
use Rattle.chart.specs.declared.drawing.State.{State}
use Rattle.chart.specs.declared.drawing.Drawing.{Drawing}
use Rattle.chart_text.specs.Counts.{positive_kind, natural_kind}
use Rattle.chart_text.specs.Keys.{key_text}
use Rattle.chart_text.specs.declared.count.Counts.{Counts}
use Rattle.chart_text.specs.Counts.{Positive}
use Rattle.chart_text.specs.Counts.{Natural}
use Rattle.chart_text.specs.declared.line.Key.TheVariants.{Chart, Events, Automata, States, Transitions, From, With, On, If, Do, To, Into}
use Rattle.chart_reader.specs.Inner.{Gives, rows_in, RowsRead, Filled}
use Rattle.chart_reader.specs.Verdicts.{one, some, transition, automaton_lines, state_lines, transition_lines, Rows, rows, plan, counted, drawn, due_end, read_through}

-- one part, with what the next part gives
abbrev pub paired : {A B : Type 0} → A → Result (B × List ℕ) TextFault → Result ((A × B) × List ℕ) TextFault
paired x w = and_then w (λ y. Ok ((x, y.0), y.1))

pub both_step : {A B : Type 0} (m : ℕ) (p : Reader A) (q : A → Reader B) (n : ℕ) (t : List ℕ) (x : A) (r : List ℕ) → p n t ≡ Ok (x, r) → both m p q n t ≡ paired x (q x (n + m) r)
both_step m p q n t x r h = ap (λ w. and_then w (λ x. and_then (q x.0 (n + m) x.1) (λ y. Ok ((x.0, y.0), y.1)))) h

-- a part that was read, and the next part from the line behind it on
pub goes_on : {A B : Type 0} (m : ℕ) (p : Reader A) (q : A → Reader B) (n k : ℕ) (t : List ℕ) (x : A) (r : List ℕ) (w : Result (B × List ℕ) TextFault)
    → p n t ≡ Ok (x, r) → k ≡ n + m → q x k r ≡ w → both m p q n t ≡ paired x w
goes_on m p q n k t x r w h e g = both_step m p q n t x r h ∙ ap (paired x) (ap (λ i. q x i r) (sym e) ∙ g)

-- a part with a fault
pub stops : {A B : Type 0} (m : ℕ) (p : Reader A) (q : A → Reader B) (n : ℕ) (t : List ℕ) (f : TextFault) → p n t ≡ Err f → both m p q n t ≡ Err f
stops m p q n t f h = ap (λ w. and_then w (λ x. and_then (q x.0 (n + m) x.1) (λ y. Ok ((x.0, y.0), y.1)))) h

-- ---- a transition

abbrev pub from_to : Counts → Reader (StateId × List StateId)
from_to c = both 1 (one state_kind c.states To) (λ _. some state_kind 24 c.states Into)

abbrev pub from_do : Counts → Reader (List EventId × (StateId × List StateId))
from_do c = both 1 (some event_kind 8 c.events Do) (λ _. from_to c)

abbrev pub from_if : Counts → Reader (List Term × (List EventId × (StateId × List StateId)))
from_if c = both 1 (some term_kind 8 c.states If) (λ _. from_do c)

abbrev pub from_on : Counts → Reader (EventId × (List Term × (List EventId × (StateId × List StateId))))
from_on c = both 1 (one event_kind c.events On) (λ _. from_if c)

abbrev pub from_with : Counts → Reader (List StateId × (EventId × (List Term × (List EventId × (StateId × List StateId)))))
from_with c = both 1 (some state_kind 8 c.states With) (λ _. from_on c)

-- what the lines from the guard on give decides, where those before them were read
module _ (c : Counts) (n1 n2 n3 n4 : ℕ) (t r1 r2 r3 : List ℕ) (s : StateId) (ss : List StateId) (e : EventId)
    (h1 : value_at (single_of state_kind c.states) (key_text From) n1 t ≡ Ok (s, r1)) (e1 : n2 ≡ n1 + 1)
    (h2 : value_at (list_of state_kind 8 c.states) (key_text With) n2 r1 ≡ Ok (ss, r2)) (e2 : n3 ≡ n2 + 1)
    (h3 : value_at (single_of event_kind c.events) (key_text On) n3 r2 ≡ Ok (e, r3)) (e3 : n4 ≡ n3 + 1) where
  pub guard_decides : (f : TextFault) → from_if c n4 r3 ≡ Err f → transition_lines c n1 t ≡ Err f
  guard_decides f h =
      ap (λ w. and_then w (λ x. Ok (transition x.0, x.1)))
      (goes_on 1 (one state_kind c.states From) (λ _. from_with c) n1 n2 t s r1 _ (ap in_text h1) e1
      (goes_on 1 (some state_kind 8 c.states With) (λ _. from_on c) n2 n3 r1 ss r2 _ (ap in_text h2) e2
      (goes_on 1 (one event_kind c.events On) (λ _. from_if c) n3 n4 r2 e r3 _ (ap in_text h3) e3 h)))

-- ---- the rows

-- nothing stood there before
pub fresh : {X A : Type 0} (f : X → A) (before : List X) (w x : Result (List A × List ℕ) TextFault) → before ≡ [] → rows_behind (map f before) w ≡ x → w ≡ x
fresh {A = A} f before w x e h = sym (alone w) ∙ ap (λ xs. rows_behind (map f xs) w) (sym e) ∙ h
  where
    alone : (w : Result (List A × List ℕ) TextFault) → rows_behind (map f []) w ≡ w
    alone (Ok y) = refl
    alone (Err g) = refl

pub plain : {A : Type 0} (before ys : List A) (w : Result (List A × List ℕ) TextFault) (r : List ℕ) → before ≡ []
    → rows_behind (map (λ a. a) before) w ≡ Ok (map (λ a. a) ys, r) → w ≡ Ok (ys, r)
plain before ys w r e h = fresh (λ a. a) before w _ e h ∙ ap (λ xs. Ok (xs, r)) (map-id ys)

pub rows_three : (c : Counts) (count n1 n2 n3 : ℕ) (t : List ℕ) (A : List Automaton) (S : List State) (r1 r2 : List ℕ)
    → times c.automata 2 (automaton_lines c) n1 t ≡ Ok (A, r1) → n2 ≡ n1 + 2 * c.automata → times c.states 1 (state_lines c) n2 r1 ≡ Ok (S, r2) → n3 ≡ n2 + c.states
    → rows c count n1 t ≡ paired A (paired S (times count 7 (transition_lines c) n3 r2))
rows_three c count n1 n2 n3 t A S r1 r2 a e1 s e2 =
    goes_on (2 * c.automata) (times c.automata 2 (automaton_lines c)) (λ _. both c.states (times c.states 1 (state_lines c)) (λ _. times count 7 (transition_lines c))) n1 n2 t A r1 _ a e1
    (goes_on c.states (times c.states 1 (state_lines c)) (λ _. times count 7 (transition_lines c)) n2 n3 r1 S r2 _ s e2 refl)

-- the last of the three kinds of rows decides
pub filled : (x : Result (Rows × List ℕ) TextFault) (before after : Drawing) (lines left : Lines) (height : ℕ) (w : Result (List TransitionPlan × List ℕ) TextFault)
    → x ≡ paired (items after.automata) (paired (items after.states) w) → items before.transitions ≡ [] → after.name ≡ before.name → after.events ≡ before.events
    → (left.number ≡ lines.number + height → w ≡ Ok (map transition_plan (items after.transitions), left.rest.now) → left.number ≡ due_end (plan_of after))
    → (r : Result (Unit {0}) TextFault)
    → Gives (λ _. map transition_plan (items after.transitions)) height (rows_behind (map transition_plan (items before.transitions)) w) lines left r
    → Filled x before after left r
filled x before after lines left height w e none n v end (Ok u) h =
    let own = fresh transition_plan (items before.transitions) w _ none h.0 in record {
      answer = e ∙ ap (λ w. paired (items after.automata) (paired (items after.states) w)) own;
      name = n;
      events = v;
      number = end h.1 own;
    }
filled x before after lines left height w e none n v end (Err f) h = e ∙ ap (λ w. paired (items after.automata) (paired (items after.states) w)) (fresh transition_plan (items before.transitions) w _ none h)

-- ---- the head

abbrev pub from_transitions : Positive → Positive → Positive → Reader (Natural × Rows)
from_transitions e a s = both 1 (one natural_kind 97 Transitions) (λ k. rows (counted e a s) k.0)

abbrev pub from_states : Positive → Positive → Reader (Positive × (Natural × Rows))
from_states e a = both 1 (one positive_kind 65 States) (λ s. from_transitions e a s)

abbrev pub from_automata : Positive → Reader (Positive × (Positive × (Natural × Rows)))
from_automata e = both 1 (one positive_kind 25 Automata) (λ a. from_states e a)

abbrev pub from_events : Reader (Positive × (Positive × (Positive × (Natural × Rows))))
from_events = both 1 (one positive_kind 65 Events) (λ e. from_automata e)

-- a fault in the head
pub head_fault : (t : List ℕ) (f : TextFault) → both 1 (field name_of (key_text Chart)) (λ _. from_events) 1 t ≡ Err f → read_through t ≡ Err f
head_fault t f h = ap (λ w. and_then (and_then w (λ x. Ok (plan x.0, x.1))) (λ x. ended (due_end x.0) x)) h

module _ (t r1 r2 r3 r4 r5 : List ℕ) (n2 n3 n4 n5 : ℕ) (n : List ℕ) (e a s : Positive) (k : Natural)
    (h1 : value_at name_of (key_text Chart) 1 t ≡ Ok (n, r1)) (e1 : n2 ≡ 1 + 1)
    (h2 : value_at (single_of positive_kind 65) (key_text Events) n2 r1 ≡ Ok (e, r2)) (e2 : n3 ≡ n2 + 1)
    (h3 : value_at (single_of positive_kind 25) (key_text Automata) n3 r2 ≡ Ok (a, r3)) (e3 : n4 ≡ n3 + 1)
    (h4 : value_at (single_of positive_kind 65) (key_text States) n4 r3 ≡ Ok (s, r4)) (e4 : n5 ≡ n4 + 1)
    (h5 : value_at (single_of natural_kind 97) (key_text Transitions) n5 r4 ≡ Ok (k, r5)) (e5 : 6 ≡ n5 + 1) where
  head_read : (w : Result (Rows × List ℕ) TextFault) → rows (counted e a s) k.0 6 r5 ≡ w
      → both 1 (field name_of (key_text Chart)) (λ _. from_events) 1 t ≡ paired n (paired e (paired a (paired s (paired k w))))
  head_read w h =
      goes_on 1 (field name_of (key_text Chart)) (λ _. from_events) 1 n2 t n r1 _ (ap in_text h1) e1
      (goes_on 1 (one positive_kind 65 Events) from_automata n2 n3 r1 e r2 _ (ap in_text h2) e2
      (goes_on 1 (one positive_kind 25 Automata) (from_states e) n3 n4 r2 a r3 _ (ap in_text h3) e3
      (goes_on 1 (one positive_kind 65 States) (from_transitions e a) n4 n5 r3 s r4 _ (ap in_text h4) e4
      (goes_on 1 (one natural_kind 97 Transitions) (λ k. rows (counted e a s) k.0) n5 6 r4 k r5 _ (ap in_text h5) e5 h))))

  pub rows_fault : (f : TextFault) → rows (counted e a s) k.0 6 r5 ≡ Err f → read_through t ≡ Err f
  rows_fault f h = head_fault t f (head_read (Err f) h)

  pub drawn_done : (before after : Drawing) (left : Lines) → RowsRead (rows (counted e a s) k.0 6 r5) before after left
      → items before.name.bytes ≡ n → before.events ≡ e.0 → drawn 1 t ≡ Ok (plan_of after, left.rest.now)
  drawn_done before after left h name events =
      ap (λ w. and_then w (λ x. Ok (plan x.0, x.1))) (head_read (Ok (rows_in after, left.rest.now)) h.answer)
      ∙ ap₂ (λ n v. Ok (record { name = n; events = v; automata = (rows_in after).0; states = (rows_in after).1.0; transitions = (rows_in after).1.1 }, left.rest.now))
      (sym (ap (λ d. items d.bytes) h.name ∙ name)) (sym (h.events ∙ events))

-- ---- the end

pub ended_well : (t : List ℕ) (p : Plan) (rest : List ℕ) → drawn 1 t ≡ Ok (p, rest) → length rest ≡ 0 → read_through t ≡ Ok p
ended_well t p [] h l = ap (λ w. and_then w (λ x. ended (due_end x.0) x)) h
ended_well t p (b ∷ rest) h l = absurd (omega arith)

pub ended_badly : (t : List ℕ) (p : Plan) (rest : List ℕ) → drawn 1 t ≡ Ok (p, rest) → (length rest ≡ 0 → ⊥) → read_through t ≡ Err (Trailing (due_end p))
ended_badly t p [] h l = absurd (l refl)
ended_badly t p (b ∷ rest) h l = ap (λ w. and_then w (λ x. ended (due_end x.0) x)) h
