-- A reader walks along the keys that are due: it stops at the first wrong line, or behind the last. Assumes nothing.
use Rattle.std.proofs.Common.{◌≡◌, ℕ, zero, suc, ◌+◌, List, [], ◌∷◌, ◌++◌, length, Some, None, Ok, Err, Option, Result, sym, refl, ap, ◌∙◌, subst, ap₂, arith}
use Rattle.std.specs.Option.{option_map}
use Rattle.std.proofs.lemmas.List.{append_assoc, length-append}
use Rattle.format.specs.Elements.{and_then, single_of, list_of}
use Rattle.format.specs.Readers.{Reader, line_at, in_line, value_at, in_text, field, both, times, named}
use Rattle.format.specs.declared.fault.ElementFault.{ElementFault}
use Rattle.format.specs.declared.fault.LineFault.{LineFault}
use Rattle.format.specs.declared.fault.LineFault.TheVariants.{Element}
use Rattle.format.specs.declared.fault.TextFault.{TextFault}
use Rattle.format.specs.declared.fault.TextFault.TheVariants.{Line}
use Rattle.format.proofs.Laws.{line_rest, field_parts}
use Rattle.format.proofs.Lists.{same_ok, then_ok}
use Rattle.format.proofs.Wrongs.{fault_of, faulty}
use Rattle.chart.specs.Kinds.{state_kind, automaton_kind, event_kind, term_kind, parent_kind, name_of}
use Rattle.chart_text.specs.Counts.{positive_kind, natural_kind}
use Rattle.chart_text.specs.Keys.{key_text}
use Rattle.chart_text.specs.declared.count.Counts.{Counts}
use Rattle.chart_text.specs.declared.line.Key.{Key}
use Rattle.chart_text.specs.declared.line.Key.TheVariants.{Chart, Events, Automata, States, Transitions, Under, First, In, From, With, On, If, Do, To, Into}
use Rattle.chart_reader.specs.Refusals.{repeated, next_line, skip_lines}

-- the fault of a value, and of a line, by calculation
abbrev pub value_fault : Counts → Key → List ℕ → Option ElementFault
value_fault c Chart v = fault_of (name_of v)
value_fault c Events v = fault_of (single_of positive_kind 65 v)
value_fault c Automata v = fault_of (single_of positive_kind 25 v)
value_fault c States v = fault_of (single_of positive_kind 65 v)
value_fault c Transitions v = fault_of (single_of natural_kind 97 v)
value_fault c Under v = fault_of (single_of parent_kind c.states v)
value_fault c First v = fault_of (single_of state_kind c.states v)
value_fault c In v = fault_of (single_of automaton_kind c.automata v)
value_fault c From v = fault_of (single_of state_kind c.states v)
value_fault c With v = fault_of (list_of state_kind 8 c.states v)
value_fault c On v = fault_of (single_of event_kind c.events v)
value_fault c If v = fault_of (list_of term_kind 8 c.states v)
value_fault c Do v = fault_of (list_of event_kind 8 c.events v)
value_fault c To v = fault_of (single_of state_kind c.states v)
value_fault c Into v = fault_of (list_of state_kind 24 c.states v)

abbrev pub fault_at : Counts → Key → ℕ → List ℕ → Option LineFault
fault_at c k n s = faulty n (line_at (key_text k) n s) (value_fault c k)

-- no fault along the keys
abbrev pub Clear : Counts → List Key → ℕ → List ℕ → Type 0
Clear c [] n s = Unit {0}
Clear c (k ∷ ks) n s = (fault_at c k n s ≡ None) × Clear c ks (n + 1) (next_line s)

pub record Broken (c : Counts) (ks : List Key) (n : ℕ) (s : List ℕ) (e : TextFault) : Type 0 where
  pub before : List Key
  pub due : Key
  pub after : List Key
  pub fault : LineFault
  pub split : ks ≡ before ++ (due ∷ after)
  pub right : Clear c before n s
  pub wrong : fault_at c due (n + length before) (skip_lines (length before) s) ≡ Some fault
  pub is : Line fault ≡ e

pub record Walks {A : Type 0} (c : Counts) (p : Reader A) (ks : List Key) (n : ℕ) (s : List ℕ) : Type 0 where
  pub ok : (a : A) (r : List ℕ) → p n s ≡ Ok (a, r) → Clear c ks n s × (r ≡ skip_lines (length ks) s)
  pub err : (e : TextFault) → p n s ≡ Err e → Broken c ks n s e

-- ---- along two lists of keys

pub skip_add : (a b : ℕ) (s : List ℕ) → skip_lines b (skip_lines a s) ≡ skip_lines (a + b) s
skip_add zero b s = let z : 0 + b ≡ b = omega arith in ap (λ k. skip_lines k s) (sym z)
skip_add (suc a) b s = let z : suc a + b ≡ suc (a + b) = omega arith in skip_add a b (next_line s) ∙ ap (λ k. skip_lines k s) (sym z)

pub clear_append : (c : Counts) (ks js : List Key) (n : ℕ) (s : List ℕ) → Clear c ks n s → Clear c js (n + length ks) (skip_lines (length ks) s) → Clear c (ks ++ js) n s
clear_append c [] js n s a b = let z : n + 0 ≡ n = omega arith in subst (λ m. Clear c js m s) z b
clear_append c (k ∷ ks) js n s a b =
    let z : n + suc (length ks) ≡ n + 1 + length ks = omega arith in
    (a.0, clear_append c ks js (n + 1) (next_line s) a.1 (subst (λ m. Clear c js m (skip_lines (length ks) (next_line s))) z b))

broken_left : (c : Counts) (ks js : List Key) (n : ℕ) (s : List ℕ) (e : TextFault) → Broken c ks n s e → Broken c (ks ++ js) n s e
broken_left c ks js n s e b = record {
  before = b.before;
  due = b.due;
  after = b.after ++ js;
  fault = b.fault;
  split = ap (λ xs. xs ++ js) b.split ∙ append_assoc b.before (b.due ∷ b.after) js;
  right = b.right;
  wrong = b.wrong;
  is = b.is;
}

broken_right : (c : Counts) (ks js : List Key) (n : ℕ) (s : List ℕ) (e : TextFault) → Clear c ks n s → Broken c js (n + length ks) (skip_lines (length ks) s) e → Broken c (ks ++ js) n s e
broken_right c ks js n s e a b =
    let l = length-append ks b.before in
    let z : n + length (ks ++ b.before) ≡ n + length ks + length b.before = omega arith in
    record {
      before = ks ++ b.before;
      due = b.due;
      after = b.after;
      fault = b.fault;
      split = ap (λ xs. ks ++ xs) b.split ∙ sym (append_assoc ks b.before (b.due ∷ b.after));
      right = clear_append c ks b.before n s a b.right;
      wrong = ap₂ (λ m w. fault_at c b.due m w) z (ap (λ k. skip_lines k s) l ∙ sym (skip_add (length ks) (length b.before) s)) ∙ b.wrong;
      is = b.is;
    }

-- ---- the readers

module _ {A B : Type 0} (c : Counts) (m : ℕ) (p : Reader A) (q : A → Reader B) (ks js : List Key) (n : ℕ) (s : List ℕ) (size : length ks ≡ m)
    (first : Walks c p ks n s) (second : (a : A) (r : List ℕ) → p n s ≡ Ok (a, r) → Walks c (q a) js (n + m) r) where
  both_ok : (x : A × B) (r : List ℕ) → both m p q n s ≡ Ok (x, r) → Clear c (ks ++ js) n s × (r ≡ skip_lines (length (ks ++ js)) s)
  both_ok x r h =
      let g = then_ok (p n s) (λ y. and_then (q y.0 (n + m) y.1) (λ z. Ok ((y.0, z.0), z.1))) (x, r) h in
      let j = then_ok (q g.0.0 (n + m) g.0.1) (λ z. Ok ((g.0.0, z.0), z.1)) (x, r) g.2 in
      let u = first.ok g.0.0 g.0.1 g.1 in
      let v = (second g.0.0 g.0.1 g.1).ok j.0.0 j.0.1 j.1 in
      let e = ap (λ (w : (A × B) × List ℕ). w.1) (same_ok ((g.0.0, j.0.0), j.0.1) (x, r) j.2) in
      let z : n + m ≡ n + length ks = ap (λ k. n + k) (sym size) in (
        clear_append c ks js n s u.0 (subst (λ w. Clear c js w (skip_lines (length ks) s)) z (subst (Clear c js (n + m)) u.1 v.0)),
        sym e ∙ v.1 ∙ ap (skip_lines (length js)) u.1 ∙ skip_add (length ks) (length js) s ∙ ap (λ k. skip_lines k s) (sym (length-append ks js)),
      )

  both_err : (r : Result (A × List ℕ) TextFault) → p n s ≡ r → (e : TextFault)
      → and_then {B = (A × B) × List ℕ} r (λ y. and_then (q y.0 (n + m) y.1) (λ z. Ok ((y.0, z.0), z.1))) ≡ Err e → Broken c (ks ++ js) n s e
  both_err (Err f) x e h = let y : f ≡ e = cc in broken_left c ks js n s e (first.err e (x ∙ ap (λ z. Err z) y))
  both_err (Ok y) x e h =
      let u = first.ok y.0 y.1 x in
      let w = (second y.0 y.1 x).err e (inner (q y.0 (n + m) y.1) h) in
      let z : n + m ≡ n + length ks = ap (λ k. n + k) (sym size) in
      broken_right c ks js n s e u.0 (subst (λ k. Broken c js k (skip_lines (length ks) s) e) z (subst (λ t. Broken c js (n + m) t e) u.1 w))
    where
      inner : (r : Result (B × List ℕ) TextFault) → and_then {B = (A × B) × List ℕ} r (λ z. Ok ((y.0, z.0), z.1)) ≡ Err e → r ≡ Err e
      inner (Ok z) h = absurd (let y : ◌≡◌ {A = ℕ} 0 1 = cc in omega arith)
      inner (Err f) h = cc

  pub both_walks : Walks c (both m p q) (ks ++ js) n s
  both_walks = record { ok = both_ok; err = λ e h. both_err (p n s) refl e h }

pub named_walks : {A B : Type 0} (c : Counts) (f : A → B) (p : Reader A) (ks : List Key) (n : ℕ) (s : List ℕ) → Walks c p ks n s → Walks c (named f p) ks n s
named_walks {A} {B} c f p ks n s w = record {
  ok = λ b r h.
      let g = then_ok (p n s) (λ x. Ok (f x.0, x.1)) (b, r) h in
      let e = ap (λ (w : B × List ℕ). w.1) (same_ok (f g.0.0, g.0.1) (b, r) g.2) in
      let u = w.ok g.0.0 g.0.1 g.1 in (u.0, sym e ∙ u.1);
  err = λ e h. w.err e (inner (p n s) e h);
}
  where
    inner : (r : Result (A × List ℕ) TextFault) (e : TextFault) → and_then {B = B × List ℕ} r (λ x. Ok (f x.0, x.1)) ≡ Err e → r ≡ Err e
    inner (Ok x) e h = absurd (let y : ◌≡◌ {A = ℕ} 0 1 = cc in omega arith)
    inner (Err g) e h = cc

-- as `both`, with a list made of the two
abbrev pair_up : {A : Type 0} → A × List A → List A
pair_up x = x.0 ∷ x.1

regroup : {A : Type 0} (m : ℕ) (p : Reader A) (q : Reader (List A)) (n : ℕ) (s : List ℕ)
    → named pair_up (both m p (λ _. q)) n s ≡ and_then (p n s) (λ x. and_then (q (n + m) x.1) (λ y. Ok (x.0 ∷ y.0, y.1)))
regroup {A} m p q n s = outer (p n s)
  where
    inner : (x : A × List ℕ) (r : Result (List A × List ℕ) TextFault)
        → and_then {A = (A × List A) × List ℕ} {B = List A × List ℕ} (and_then r (λ y. Ok ((x.0, y.0), y.1))) (λ z. Ok (pair_up z.0, z.1))
        ≡ and_then r (λ y. Ok (x.0 ∷ y.0, y.1))
    inner x (Ok y) = refl
    inner x (Err f) = refl

    outer : (r : Result (A × List ℕ) TextFault)
        → and_then {A = (A × List A) × List ℕ} {B = List A × List ℕ} (and_then r (λ x. and_then (q (n + m) x.1) (λ y. Ok ((x.0, y.0), y.1)))) (λ z. Ok (pair_up z.0, z.1))
        ≡ and_then r (λ x. and_then (q (n + m) x.1) (λ y. Ok (x.0 ∷ y.0, y.1)))
    outer (Ok x) = inner x (q (n + m) x.1)
    outer (Err f) = refl

walks_same : {A : Type 0} (c : Counts) (p q : Reader A) (ks : List Key) (n : ℕ) (s : List ℕ) → p n s ≡ q n s → Walks c p ks n s → Walks c q ks n s
walks_same c p q ks n s e w = record { ok = λ a r h. w.ok a r (e ∙ h); err = λ f h. w.err f (e ∙ h) }

pub times_walks : {A : Type 0} (c : Counts) (m : ℕ) (p : Reader A) (ks : List Key) → length ks ≡ m → ((n : ℕ) (s : List ℕ) → Walks c p ks n s)
    → (count n : ℕ) (s : List ℕ) → Walks c (times count m p) (repeated count ks) n s
times_walks {A} c m p ks size each zero n s = record {
  ok = λ xs r h. (tt, sym (ap (λ (w : List A × List ℕ). w.1) (same_ok ([], s) (xs, r) h)));
  err = λ e h. absurd (let y : ◌≡◌ {A = ℕ} 0 1 = cc in omega arith);
}
times_walks c m p ks size each (suc count) n s =
    walks_same c (named pair_up (both m p (λ _. times count m p))) (times (suc count) m p) (ks ++ repeated count ks) n s (regroup m p (times count m p) n s)
    (named_walks c pair_up (both m p (λ _. times count m p)) (ks ++ repeated count ks) n s
    (both_walks c m p (λ _. times count m p) ks (repeated count ks) n s size (each n s) (λ a r h. times_walks c m p ks size each count (n + m) r)))

-- ---- one line

line_fault : {A : Type 0} (n : ℕ) (f : List ℕ → Result A ElementFault) (r : Result (List ℕ × List ℕ) LineFault)
    → fault_of (and_then r (λ p. in_line n p.1 (f p.0))) ≡ faulty n r (λ v. fault_of (f v))
line_fault n f (Err g) = refl
line_fault {A} n f (Ok p) = one (f p.0)
  where
    one : (x : Result A ElementFault) → fault_of (in_line n p.1 x) ≡ option_map (λ e. Element n e) (fault_of x)
    one (Ok a) = refl
    one (Err e) = refl

in_text_fault : {X : Type 0} (x : Result X LineFault) (e : TextFault) → in_text x ≡ Err e → (f : LineFault) × (fault_of x ≡ Some f) × (Line f ≡ e)
in_text_fault (Ok y) e h = absurd (let z : ◌≡◌ {A = ℕ} 0 1 = cc in omega arith)
in_text_fault (Err f) e h = (f, refl, cc)

pub field_walks : {A : Type 0} (c : Counts) (f : List ℕ → Result A ElementFault) (k : Key) → ((v : List ℕ) → value_fault c k v ≡ fault_of (f v))
    → (n : ℕ) (s : List ℕ) → Walks c (field f (key_text k)) (k ∷ []) n s
field_walks c f k same n s = record {
  ok = λ a r h.
      let g = field_parts f (key_text k) n s a r h in (
        (ap (λ w. faulty n w (value_fault c k)) g.1 ∙ ap (option_map (λ e. Element n e)) (same g.0.0 ∙ ap fault_of g.2), tt),
        sym g.3 ∙ line_rest (key_text k) n s g.0 g.1,
      );
  err = λ e h.
      let x = in_text_fault (value_at f (key_text k) n s) e h in
      let z : n + 0 ≡ n = omega arith in
      record {
        before = [];
        due = k;
        after = [];
        fault = x.0;
        split = refl;
        right = tt;
        wrong = ap (λ m. fault_at c k m s) z ∙ faulty_same (line_at (key_text k) n s) ∙ sym (line_fault n f (line_at (key_text k) n s)) ∙ x.1;
        is = x.2;
      };
}
  where
    faulty_same : (r : Result (List ℕ × List ℕ) LineFault) → faulty n r (value_fault c k) ≡ faulty n r (λ v. fault_of (f v))
    faulty_same (Ok p) = ap (option_map (λ e. Element n e)) (same p.0)
    faulty_same (Err g) = refl
