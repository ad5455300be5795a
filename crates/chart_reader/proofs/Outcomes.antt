-- A whole text walks along its due keys: accepted, stopped at its first wrong line, or going on behind. Assumes nothing.
use Rattle.std.proofs.Common.{◌≡◌, ℕ, zero, suc, ◌+◌, ◌*◌, List, [], ◌∷◌, ◌++◌, length, Ok, Err, Result, sym, refl, ap, ◌∙◌, subst, arith}
use Rattle.std.proofs.lemmas.List.{length-append}
use Rattle.std.specs.Option.{option_map}
use Rattle.format.specs.Bytes.{number_of}
use Rattle.format.specs.Elements.{and_then, Kind, single_of, list_of}
use Rattle.format.specs.Readers.{field, both, times, ended}
use Rattle.format.specs.declared.fault.TextFault.{TextFault}
use Rattle.format.specs.declared.fault.TextFault.TheVariants.{Trailing}
use Rattle.format.proofs.Laws.{field_parts, both_parts, times_length}
use Rattle.format.proofs.Lists.{same_ok, then_ok}
use Rattle.format.proofs.Wholes.{single_number}
use Rattle.chart.specs.Kinds.{state_kind, automaton_kind, event_kind, term_kind, parent_kind, name_of}
use Rattle.chart.specs.Plans.{Plan}
use Rattle.chart_text.specs.Counts.{positive_no, natural_no, positive_kind, natural_kind}
use Rattle.chart_text.specs.Keys.{key_text}
use Rattle.chart_text.specs.declared.count.Counts.{Counts}
use Rattle.chart_text.specs.Counts.{Positive}
use Rattle.chart_text.specs.Counts.{Natural}
use Rattle.chart_text.specs.declared.line.Key.{Key}
use Rattle.chart_text.specs.declared.line.Key.TheVariants.{Chart, Events, Automata, States, Transitions, Under, First, In, From, With, On, If, Do, To, Into}
use Rattle.chart_reader.specs.Verdicts.{one, automaton, automaton_lines, state, state_lines, transition, transition_lines, Rows, rows, PlanParts, plan, counted, drawn, due_end, read_through}
use Rattle.chart_reader.specs.Refusals.{transition_keys, repeated, row_keys, due_keys, next_line, skip_lines, number_in, or_zero, stated, counts_in, keys_in}
use Rattle.chart_reader.proofs.Steps.{from_transitions, from_states, from_automata, from_events}
use Rattle.chart_reader.proofs.Walks.{Clear, Broken, Walks, field_walks, both_walks, named_walks, times_walks}

-- ---- the rows

automaton_walks : (c : Counts) (n : ℕ) (s : List ℕ) → Walks c (automaton_lines c) (Under ∷ (First ∷ [])) n s
automaton_walks c n s =
    named_walks c automaton _ _ n s (both_walks c 1 (one parent_kind c.states Under) (λ _. one state_kind c.states First) (Under ∷ []) (First ∷ []) n s refl
    (field_walks c (single_of parent_kind c.states) Under (λ v. refl) n s)
    (λ _ r _. field_walks c (single_of state_kind c.states) First (λ v. refl) (n + 1) r))

state_walks : (c : Counts) (n : ℕ) (s : List ℕ) → Walks c (state_lines c) (In ∷ []) n s
state_walks c n s = named_walks c state _ _ n s (field_walks c (single_of automaton_kind c.automata) In (λ v. refl) n s)

transition_walks : (c : Counts) (n : ℕ) (s : List ℕ) → Walks c (transition_lines c) transition_keys n s
transition_walks c n s =
    named_walks c transition _ _ n s
    (both_walks c 1 _ _ (From ∷ []) _ n s refl (field_walks c (single_of state_kind c.states) From (λ v. refl) n s) (λ _ r1 _.
    both_walks c 1 _ _ (With ∷ []) _ (n + 1) r1 refl (field_walks c (list_of state_kind 8 c.states) With (λ v. refl) (n + 1) r1) (λ _ r2 _.
    both_walks c 1 _ _ (On ∷ []) _ (n + 1 + 1) r2 refl (field_walks c (single_of event_kind c.events) On (λ v. refl) (n + 1 + 1) r2) (λ _ r3 _.
    both_walks c 1 _ _ (If ∷ []) _ (n + 1 + 1 + 1) r3 refl (field_walks c (list_of term_kind 8 c.states) If (λ v. refl) (n + 1 + 1 + 1) r3) (λ _ r4 _.
    both_walks c 1 _ _ (Do ∷ []) _ (n + 1 + 1 + 1 + 1) r4 refl (field_walks c (list_of event_kind 8 c.events) Do (λ v. refl) (n + 1 + 1 + 1 + 1) r4) (λ _ r5 _.
    both_walks c 1 _ _ (To ∷ []) (Into ∷ []) (n + 1 + 1 + 1 + 1 + 1) r5 refl (field_walks c (single_of state_kind c.states) To (λ v. refl) (n + 1 + 1 + 1 + 1 + 1) r5) (λ _ r6 _.
    field_walks c (list_of state_kind 24 c.states) Into (λ v. refl) (n + 1 + 1 + 1 + 1 + 1 + 1) r6)))))))

repeated_length : (n : ℕ) (ks : List Key) → length (repeated n ks) ≡ n * length ks
repeated_length zero ks = omega arith
repeated_length (suc n) ks = let h = repeated_length n ks in let l = length-append ks (repeated n ks) in omega arith

rows_walks : (c : Counts) (count n : ℕ) (s : List ℕ) → Walks c (rows c count) (row_keys c.automata c.states count) n s
rows_walks c count n s =
    both_walks c (2 * c.automata) (times c.automata 2 (automaton_lines c)) (λ _. both c.states (times c.states 1 (state_lines c)) (λ _. times count 7 (transition_lines c)))
    (repeated c.automata (Under ∷ (First ∷ []))) (repeated c.states (In ∷ []) ++ repeated count transition_keys) n s
    (omega (arith, repeated_length c.automata (Under ∷ (First ∷ []))))
    (times_walks c 2 (automaton_lines c) (Under ∷ (First ∷ [])) refl (automaton_walks c) c.automata n s)
    (λ _ r1 _. both_walks c c.states (times c.states 1 (state_lines c)) (λ _. times count 7 (transition_lines c)) (repeated c.states (In ∷ [])) (repeated count transition_keys)
    (n + 2 * c.automata) r1 (omega (arith, repeated_length c.states (In ∷ [])))
    (times_walks c 1 (state_lines c) (In ∷ []) refl (state_walks c) c.states (n + 2 * c.automata) r1)
    (λ _ r2 _. times_walks c 7 (transition_lines c) transition_keys refl (transition_walks c) count (n + 2 * c.automata + c.states) r2))

-- ---- the head states the counts

stated_number : {E : Type 0} (kind : Kind E) (make : ℕ → E) (num : E → ℕ) → ((n : ℕ) → num (make n) ≡ n) → ((v : List ℕ) → kind.shape v ≡ option_map make (number_of v))
    → (limit : ℕ) (k : Key) (n : ℕ) (s : List ℕ) (e : E) (r : List ℕ) → one kind limit k n s ≡ Ok (e, r) → stated k n s ≡ num e
stated_number kind make num back shaped limit k n s e r h =
    let g = field_parts (single_of kind limit) (key_text k) n s e r h in
    ap number_in g.1 ∙ ap or_zero (single_number kind make num back shaped limit g.0.0 e g.2)

stated_positive : (limit : ℕ) (k : Key) (n : ℕ) (s : List ℕ) (e : Positive) (r : List ℕ) → one positive_kind limit k n s ≡ Ok (e, r) → stated k n s ≡ e.0
stated_positive = stated_number positive_kind positive_no (λ (c : Positive). c.0) (λ n. refl) (λ v. refl)

-- the four counts, where the five lines of the head are read
pub record HeadRead (t : List ℕ) (e a s : Positive) (k : Natural) : Type 0 where
  pub counts : counts_in t ≡ counted e a s
  pub transitions : stated Transitions 5 (skip_lines 4 t) ≡ k.0

head_read : (t : List ℕ) (n r1 r2 r3 r4 r5 : List ℕ) (e a s : Positive) (k : Natural)
    → field name_of (key_text Chart) 1 t ≡ Ok (n, r1) → one positive_kind 65 Events 2 r1 ≡ Ok (e, r2) → one positive_kind 25 Automata 3 r2 ≡ Ok (a, r3)
    → one positive_kind 65 States 4 r3 ≡ Ok (s, r4) → one natural_kind 97 Transitions 5 r4 ≡ Ok (k, r5) → HeadRead t e a s k
head_read t n r1 r2 r3 r4 r5 e a s k h1 h2 h3 h4 h5 =
    let c = counts_in t in
    let s1 : r1 ≡ skip_lines 1 t = ((field_walks c name_of Chart (λ v. refl) 1 t).ok n r1 h1).1 in
    let s2 : r2 ≡ skip_lines 2 t = ((field_walks c (single_of positive_kind 65) Events (λ v. refl) 2 r1).ok e r2 h2).1 ∙ ap next_line s1 in
    let s3 : r3 ≡ skip_lines 3 t = ((field_walks c (single_of positive_kind 25) Automata (λ v. refl) 3 r2).ok a r3 h3).1 ∙ ap next_line s2 in
    let s4 : r4 ≡ skip_lines 4 t = ((field_walks c (single_of positive_kind 65) States (λ v. refl) 4 r3).ok s r4 h4).1 ∙ ap next_line s3 in
    let ve = sym (ap (stated Events 2) s1) ∙ stated_positive 65 Events 2 r1 e r2 h2 in
    let va = sym (ap (stated Automata 3) s2) ∙ stated_positive 25 Automata 3 r2 a r3 h3 in
    let vs = sym (ap (stated States 4) s3) ∙ stated_positive 65 States 4 r3 s r4 h4 in
    let make : ℕ → ℕ → ℕ → Counts = λ x y z. record { events = x; automata = y; states = z } in
    record {
      counts = ap (λ x. make x c.automata c.states) ve ∙ ap (λ y. make e.0 y c.states) va ∙ ap (make e.0 a.0) vs;
      transitions = sym (ap (stated Transitions 5) s4) ∙ stated_number natural_kind natural_no (λ (c : Natural). c.0) (λ n. refl) (λ v. refl) 97 Transitions 5 r4 k r5 h5;
    }

drawn_walks : (t : List ℕ) → Walks (counts_in t) drawn (keys_in t) 1 t
drawn_walks t =
    let c = counts_in t in
    let count = stated Transitions 5 (skip_lines 4 t) in
    named_walks c plan _ _ 1 t
    (both_walks c 1 (field name_of (key_text Chart)) (λ _. from_events) (Chart ∷ []) _ 1 t refl (field_walks c name_of Chart (λ v. refl) 1 t) (λ n r1 h1.
    both_walks c 1 (one positive_kind 65 Events) from_automata (Events ∷ []) _ 2 r1 refl (field_walks c (single_of positive_kind 65) Events (λ v. refl) 2 r1) (λ e r2 h2.
    both_walks c 1 (one positive_kind 25 Automata) (from_states e) (Automata ∷ []) _ 3 r2 refl (field_walks c (single_of positive_kind 25) Automata (λ v. refl) 3 r2) (λ a r3 h3.
    both_walks c 1 (one positive_kind 65 States) (from_transitions e a) (States ∷ []) _ 4 r3 refl (field_walks c (single_of positive_kind 65) States (λ v. refl) 4 r3) (λ s r4 h4.
    both_walks c 1 (one natural_kind 97 Transitions) (λ k. rows (counted e a s) k.0) (Transitions ∷ []) (row_keys c.automata c.states count) 5 r4 refl
    (field_walks c (single_of natural_kind 97) Transitions (λ v. refl) 5 r4) (λ k r5 h5.
    let h = head_read t n r1 r2 r3 r4 r5 e a s k h1 h2 h3 h4 h5 in
    subst (λ w. Walks c (rows w k.0) (row_keys c.automata c.states count) 6 r5) h.counts
    (subst (λ w. Walks c (rows c w) (row_keys c.automata c.states count) 6 r5) h.transitions (rows_walks c count 6 r5))))))))

-- ---- the end

keys_length : (a s k : ℕ) → length (due_keys a s k) ≡ 5 + 2 * a + s + 7 * k
keys_length a s k =
    let ra = repeated (a) (Under ∷ (First ∷ [])) in
    let rs = repeated s (In ∷ []) in
    let rk = repeated k transition_keys in
    let l1 = length-append ra (rs ++ rk) in
    let l2 = length-append rs rk in
    let n1 = repeated_length a (Under ∷ (First ∷ [])) in
    let n2 = repeated_length s (In ∷ []) in
    let n3 = repeated_length k transition_keys in
    omega arith

drawn_end : (t : List ℕ) (p : Plan) (r : List ℕ) → drawn 1 t ≡ Ok (p, r) → due_end p ≡ 1 + length (keys_in t)
drawn_end t p r h =
    let g = then_ok (both 1 (field name_of (key_text Chart)) (λ _. from_events) 1 t) (λ x. Ok (plan x.0, x.1)) (p, r) h in
    let x : PlanParts = g.0.0 in
    let b1 = both_parts 1 (field name_of (key_text Chart)) (λ _. from_events) 1 t x g.0.1 g.1 in
    let b2 = both_parts 1 (one positive_kind 65 Events) from_automata 2 b1.0 x.1 g.0.1 b1.2 in
    let b3 = both_parts 1 (one positive_kind 25 Automata) (from_states x.1.0) 3 b2.0 x.1.1 g.0.1 b2.2 in
    let b4 = both_parts 1 (one positive_kind 65 States) (from_transitions x.1.0 x.1.1.0) 4 b3.0 x.1.1.1 g.0.1 b3.2 in
    let c = counted x.1.0 x.1.1.0 x.1.1.1.0 in
    let b5 = both_parts 1 (one natural_kind 97 Transitions) (λ k. rows c k.0) 5 b4.0 x.1.1.1.1 g.0.1 b4.2 in
    let k = x.1.1.1.1.0 in
    let y : Rows = x.1.1.1.1.1 in
    let d1 = both_parts (2 * c.automata) (times c.automata 2 (automaton_lines c)) (λ _. both c.states (times c.states 1 (state_lines c)) (λ _. times k.0 7 (transition_lines c))) 6 b5.0 y g.0.1 b5.2 in
    let d2 = both_parts c.states (times c.states 1 (state_lines c)) (λ _. times k.0 7 (transition_lines c)) (6 + 2 * c.automata) d1.0 y.1 g.0.1 d1.2 in
    let la = times_length c.automata 2 (automaton_lines c) 6 b5.0 y.0 d1.0 d1.1 in
    let ls = times_length c.states 1 (state_lines c) (6 + 2 * c.automata) d1.0 y.1.0 d2.0 d2.1 in
    let lk = times_length k.0 7 (transition_lines c) (6 + 2 * c.automata + c.states) d2.0 y.1.1 g.0.1 d2.2 in
    let hr = head_read t x.0 b1.0 b2.0 b3.0 b4.0 b5.0 x.1.0 x.1.1.0 x.1.1.1.0 k b1.1 b2.1 b3.1 b4.1 b5.1 in
    let va = ap (λ (w : Counts). w.automata) hr.counts in
    let vs = ap (λ (w : Counts). w.states) hr.counts in
    let vk = hr.transitions in
    let n = keys_length (counts_in t).automata (counts_in t).states (stated Transitions 5 (skip_lines 4 t)) in
    let e = ap (λ (w : Plan × List ℕ). due_end w.0) (same_ok (plan x, g.0.1) (p, r) g.2) in
    sym e ∙ omega arith

-- ---- what becomes of a text

pub data Outcome (t : List ℕ) : Type 0 where
  accepted : (p : Plan) → read_through t ≡ Ok p → Clear (counts_in t) (keys_in t) 1 t → skip_lines (length (keys_in t)) t ≡ [] → Outcome t
  stopped : (e : TextFault) → read_through t ≡ Err e → Broken (counts_in t) (keys_in t) 1 t e → Outcome t
  going_on : read_through t ≡ Err (Trailing (1 + length (keys_in t))) → Clear (counts_in t) (keys_in t) 1 t → (skip_lines (length (keys_in t)) t ≡ [] → ⊥) → Outcome t

rest_cases : (t : List ℕ) (p : Plan) (r : List ℕ) → drawn 1 t ≡ Ok (p, r) → r ≡ skip_lines (length (keys_in t)) t → Clear (counts_in t) (keys_in t) 1 t → Outcome t
rest_cases t p [] h e c = accepted p (ap (λ w. and_then w (λ x. ended (due_end x.0) x)) h) c (sym e)
rest_cases t p (b ∷ r) h e c =
    going_on (ap (λ w. and_then w (λ x. ended (due_end x.0) x)) h ∙ ap (λ n. Err (Trailing n)) (drawn_end t p (b ∷ r) h)) c
    (λ z. let y : b ∷ r ≡ [] = e ∙ z in absurd (let w : ◌≡◌ {A = ℕ} 0 1 = cc in omega arith))

drawn_cases : (t : List ℕ) (x : Result (Plan × List ℕ) TextFault) → drawn 1 t ≡ x → Outcome t
drawn_cases t (Ok y) h = let w = (drawn_walks t).ok y.0 y.1 h in rest_cases t y.0 y.1 h w.1 w.0
drawn_cases t (Err e) h = stopped e (ap (λ w. and_then w (λ x. ended (due_end x.0) x)) h) ((drawn_walks t).err e h)

pub outcome : (t : List ℕ) → Outcome t
outcome t = drawn_cases t (drawn 1 t) refl
