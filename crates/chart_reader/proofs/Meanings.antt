-- Each refusal comes exactly when the format says. Assumes nothing.
use Rattle.std.proofs.Common.{◌≡◌, ℕ, suc, ◌+◌, ◌≤◌, ◌&&◌, leb, List, [], ◌∷◌, ◌++◌, length, Some, None, Ok, Err, Option, Result, sym, refl, ap, ◌∙◌, subst, ap₂, ⊎_elim, arith}
use Rattle.std.specs.List.{list_all}
use Rattle.std.proofs.lemmas.Bool.{cases_Bool, leb-true, leb-false, le-leb, lt-leb}
use Rattle.format.specs.declared.fault.ElementFault.{ElementFault}
use Rattle.format.specs.declared.fault.ElementFault.TheVariants.{Form}
use Rattle.format.specs.declared.fault.LineFault.{LineFault}
use Rattle.format.specs.declared.fault.TextFault.{TextFault}
use Rattle.format.specs.declared.fault.TextFault.TheVariants.{Oversize, Line, Trailing}
use Rattle.format.proofs.Wrongs.{fault_of, single_to, single_from, list_to, list_from, line_to, line_from}
use Rattle.chart.specs.Kinds.{state_kind, automaton_kind, event_kind, term_kind, parent_kind, is_name_byte, Named, name_of}
use Rattle.chart_text.specs.Counts.{positive_kind, natural_kind}
use Rattle.chart_text.specs.Keys.{key_text}
use Rattle.chart_text.specs.declared.count.Counts.{Counts}
use Rattle.chart_text.specs.declared.line.Key.{Key}
use Rattle.chart_text.specs.declared.line.Key.TheVariants.{Chart, Events, Automata, States, Transitions, Under, First, In, From, With, On, If, Do, To, Into}
use Rattle.chart_reader.specs.Verdicts.{read_through, verdict}
use Rattle.chart_reader.specs.Refusals.{next_line, skip_lines, counts_in, keys_in, BadValue, WrongLine, RightLines, FirstWrong, GoesOn, Refusals}
use Rattle.chart_reader.proofs.Exact.{name_whole}
use Rattle.chart_reader.proofs.Outcomes.{Outcome, accepted, stopped, going_on, outcome}
use Rattle.chart_reader.proofs.Walks.{value_fault, fault_at, Clear, Broken}

none_some : {A C : Type 0} (a : A) → ◌≡◌ {A = Option A} None (Some a) → C
none_some a h = absurd (let z : ◌≡◌ {A = ℕ} 0 1 = cc in omega arith)

ok_err : {A E C : Type 0} (a : A) (e : E) → ◌≡◌ {A = Result A E} (Ok a) (Err e) → C
ok_err a e h = absurd (let z : ◌≡◌ {A = ℕ} 0 1 = cc in omega arith)

same_err : {A E : Type 0} (x y : E) → ◌≡◌ {A = Result A E} (Err x) (Err y) → x ≡ y
same_err x y h = cc

-- ---- a value's fault by calculation is its fault by the rules

name_to : (v : List ℕ) (e : ElementFault) → fault_of (name_of v) ≡ Some e → (Named v → ⊥) × (e ≡ Form 0)
name_to v e h = (
  λ n. none_some e (sym (ap fault_of (name_whole.from v n)) ∙ h),
  ⊎_elim
      (λ t. none_some e (rw t at h))
      (λ f. let x : Some (Form 0) ≡ Some e = rw f at h in cc)
      (cases_Bool (leb 1 (length v) && (leb (length v) 16 && list_all is_name_byte v))),
)

name_from : (v : List ℕ) (e : ElementFault) → (Named v → ⊥) × (e ≡ Form 0) → fault_of (name_of v) ≡ Some e
name_from v e h = name_cases (name_of v) refl
  where
    name_cases : (r : Result (List ℕ) ElementFault) → name_of v ≡ r → fault_of (name_of v) ≡ Some e
    name_cases (Ok w) x = let g = name_whole.to v w x in absurd (h.0 (subst Named (sym g.1) g.0))
    name_cases (Err f) x = let y = ap fault_of x in y ∙ ap (λ z. Some z) ((name_to v f y).1 ∙ sym h.1)

bad_to : (c : Counts) (k : Key) (v : List ℕ) (e : ElementFault) → value_fault c k v ≡ Some e → BadValue c k v e
bad_to c Chart v e h = name_to v e h
bad_to c Events v e h = single_to positive_kind 65 v e h
bad_to c Automata v e h = single_to positive_kind 25 v e h
bad_to c States v e h = single_to positive_kind 65 v e h
bad_to c Transitions v e h = single_to natural_kind 97 v e h
bad_to c Under v e h = single_to parent_kind c.states v e h
bad_to c First v e h = single_to state_kind c.states v e h
bad_to c In v e h = single_to automaton_kind c.automata v e h
bad_to c From v e h = single_to state_kind c.states v e h
bad_to c With v e h = list_to state_kind 8 c.states v e h
bad_to c On v e h = single_to event_kind c.events v e h
bad_to c If v e h = list_to term_kind 8 c.states v e h
bad_to c Do v e h = list_to event_kind 8 c.events v e h
bad_to c To v e h = single_to state_kind c.states v e h
bad_to c Into v e h = list_to state_kind 24 c.states v e h

bad_from : (c : Counts) (k : Key) (v : List ℕ) (e : ElementFault) → BadValue c k v e → value_fault c k v ≡ Some e
bad_from c Chart v e h = name_from v e h
bad_from c Events v e h = single_from positive_kind 65 v e h
bad_from c Automata v e h = single_from positive_kind 25 v e h
bad_from c States v e h = single_from positive_kind 65 v e h
bad_from c Transitions v e h = single_from natural_kind 97 v e h
bad_from c Under v e h = single_from parent_kind c.states v e h
bad_from c First v e h = single_from state_kind c.states v e h
bad_from c In v e h = single_from automaton_kind c.automata v e h
bad_from c From v e h = single_from state_kind c.states v e h
bad_from c With v e h = list_from state_kind 8 c.states v e h
bad_from c On v e h = single_from event_kind c.events v e h
bad_from c If v e h = list_from term_kind 8 c.states v e h
bad_from c Do v e h = list_from event_kind 8 c.events v e h
bad_from c To v e h = single_from state_kind c.states v e h
bad_from c Into v e h = list_from state_kind 24 c.states v e h

-- ---- and so is a line's

wrong_to : (c : Counts) (k : Key) (n : ℕ) (s : List ℕ) (f : LineFault) → fault_at c k n s ≡ Some f → WrongLine c k n s f
wrong_to c k n s f h = line_to (key_text k) (BadValue c k) (value_fault c k) n s (bad_to c k) (bad_from c k) f h

wrong_from : (c : Counts) (k : Key) (n : ℕ) (s : List ℕ) (f : LineFault) → WrongLine c k n s f → fault_at c k n s ≡ Some f
wrong_from c k n s f h = line_from (key_text k) (BadValue c k) (value_fault c k) n s (bad_to c k) (bad_from c k) f h

clear_right : (c : Counts) (ks : List Key) (n : ℕ) (s : List ℕ) → Clear c ks n s → RightLines c ks n s
clear_right c [] n s h = tt
clear_right c (k ∷ ks) n s h = (λ f w. none_some f (sym h.0 ∙ wrong_from c k n s f w), clear_right c ks (n + 1) (next_line s) h.1)

right_clear : (c : Counts) (ks : List Key) (n : ℕ) (s : List ℕ) → RightLines c ks n s → Clear c ks n s
right_clear c [] n s h = tt
right_clear c (k ∷ ks) n s h = (none (fault_at c k n s) refl, right_clear c ks (n + 1) (next_line s) h.1)
  where
    none : (o : Option LineFault) → fault_at c k n s ≡ o → fault_at c k n s ≡ None
    none None x = x
    none (Some f) x = absurd (h.0 f (wrong_to c k n s f x))

-- ---- the first wrong line is one

-- a line among right ones is right
among : (c : Counts) (ks before : List Key) (due : Key) (after : List Key) (n : ℕ) (s : List ℕ) → Clear c ks n s → ks ≡ before ++ (due ∷ after)
    → fault_at c due (n + length before) (skip_lines (length before) s) ≡ None
among c [] [] due after n s h e = absurd (let z : ◌≡◌ {A = ℕ} 0 1 = cc in omega arith)
among c [] (b ∷ before) due after n s h e = absurd (let z : ◌≡◌ {A = ℕ} 0 1 = cc in omega arith)
among c (k ∷ ks) [] due after n s h e = let q : k ≡ due = cc in let z : n + 0 ≡ n = omega arith in ap₂ (λ m w. fault_at c w m s) z (sym q) ∙ h.0
among c (k ∷ ks) (b ∷ before) due after n s h e =
    let q : ks ≡ before ++ (due ∷ after) = cc in let z : n + suc (length before) ≡ n + 1 + length before = omega arith in
    ap (λ m. fault_at c due m (skip_lines (length before) (next_line s))) z ∙ among c ks before due after (n + 1) (next_line s) h.1 q

-- two first wrong lines have one fault
agree : (c : Counts) (b1 b2 : List Key) (d1 d2 : Key) (a1 a2 : List Key) (n : ℕ) (s : List ℕ) (f1 f2 : LineFault) → b1 ++ (d1 ∷ a1) ≡ b2 ++ (d2 ∷ a2)
    → Clear c b1 n s → Clear c b2 n s → fault_at c d1 (n + length b1) (skip_lines (length b1) s) ≡ Some f1 → fault_at c d2 (n + length b2) (skip_lines (length b2) s) ≡ Some f2 → f1 ≡ f2
agree c [] [] d1 d2 a1 a2 n s f1 f2 e c1 c2 w1 w2 =
    let q : d1 ≡ d2 = cc in let x : Some f1 ≡ Some f2 = sym w1 ∙ ap (λ d. fault_at c d (n + 0) s) q ∙ w2 in cc
agree c [] (k ∷ b2) d1 d2 a1 a2 n s f1 f2 e c1 c2 w1 w2 =
    let q : d1 ≡ k = cc in let z : n + 0 ≡ n = omega arith in none_some f1 (sym c2.0 ∙ ap₂ (λ d m. fault_at c d m s) (sym q) (sym z) ∙ w1)
agree c (k ∷ b1) [] d1 d2 a1 a2 n s f1 f2 e c1 c2 w1 w2 =
    let q : k ≡ d2 = cc in let z : n + 0 ≡ n = omega arith in none_some f2 (sym c1.0 ∙ ap₂ (λ d m. fault_at c d m s) q (sym z) ∙ w2)
agree c (k ∷ b1) (j ∷ b2) d1 d2 a1 a2 n s f1 f2 e c1 c2 w1 w2 =
    let q : b1 ++ (d1 ∷ a1) ≡ b2 ++ (d2 ∷ a2) = cc in
    let z1 : n + 1 + length b1 ≡ n + suc (length b1) = omega arith in let z2 : n + 1 + length b2 ≡ n + suc (length b2) = omega arith in
    agree c b1 b2 d1 d2 a1 a2 (n + 1) (next_line s) f1 f2 q c1.1 c2.1
    (ap (λ m. fault_at c d1 m (skip_lines (length b1) (next_line s))) z1 ∙ w1) (ap (λ m. fault_at c d2 m (skip_lines (length b2) (next_line s))) z2 ∙ w2)

first_wrong : (t : List ℕ) (f : LineFault) → Broken (counts_in t) (keys_in t) 1 t (Line f) → FirstWrong (counts_in t) (keys_in t) t f
first_wrong t f b =
    let q : b.fault ≡ f = same_line b.fault f b.is in
    record {
      before = b.before;
      due = b.due;
      after = b.after;
      split = b.split;
      right = clear_right (counts_in t) b.before 1 t b.right;
      wrong = wrong_to (counts_in t) b.due (1 + length b.before) (skip_lines (length b.before) t) f (b.wrong ∙ ap (λ x. Some x) q);
    }
  where
    same_line : (x y : LineFault) → Line x ≡ Line y → x ≡ y
    same_line x y h = cc

-- ---- the law

module _ (t : List ℕ) (size : length t ≤ 16384) where
  as_read : verdict t ≡ read_through t
  as_read = let b = le-leb (length t) 16384 size in rw b

  never_oversize : (o : Outcome t) → verdict t ≡ Err Oversize → ⊥
  never_oversize (accepted p r c e) h = ok_err p Oversize (sym r ∙ sym as_read ∙ h)
  never_oversize (stopped e r b) h = let x : Line b.fault ≡ Oversize = b.is ∙ same_err e Oversize (sym r ∙ sym as_read ∙ h) in let z : ◌≡◌ {A = ℕ} 0 1 = cc in omega arith
  never_oversize (going_on r c e) h = let x = same_err _ _ (sym r ∙ sym as_read ∙ h) in let z : ◌≡◌ {A = ℕ} 0 1 = cc in omega arith

  line_then : (o : Outcome t) (f : LineFault) → verdict t ≡ Err (Line f) → FirstWrong (counts_in t) (keys_in t) t f
  line_then (accepted p r c e) f h = ok_err p (Line f) (sym r ∙ sym as_read ∙ h)
  line_then (stopped e r b) f h = first_wrong t f (subst (Broken (counts_in t) (keys_in t) 1 t) (same_err e (Line f) (sym r ∙ sym as_read ∙ h)) b)
  line_then (going_on r c e) f h = let x = same_err _ _ (sym r ∙ sym as_read ∙ h) in absurd (let z : ◌≡◌ {A = ℕ} 0 1 = cc in omega arith)

  not_clear : (f : LineFault) → FirstWrong (counts_in t) (keys_in t) t f → Clear (counts_in t) (keys_in t) 1 t → ⊥
  not_clear f w c =
      none_some f (sym (among (counts_in t) (keys_in t) w.before w.due w.after 1 t c w.split)
      ∙ wrong_from (counts_in t) w.due (1 + length w.before) (skip_lines (length w.before) t) f w.wrong)

  line_when : (o : Outcome t) (f : LineFault) → FirstWrong (counts_in t) (keys_in t) t f → verdict t ≡ Err (Line f)
  line_when (accepted p r c e) f w = absurd (not_clear f w c)
  line_when (stopped e r b) f w =
      let q = agree (counts_in t) b.before w.before b.due w.due b.after w.after 1 t b.fault f (sym b.split ∙ w.split)
      b.right (right_clear (counts_in t) w.before 1 t w.right) b.wrong
      (wrong_from (counts_in t) w.due (1 + length w.before) (skip_lines (length w.before) t) f w.wrong) in
      as_read ∙ r ∙ ap (λ x. Err x) (sym b.is ∙ ap (λ x. Line x) q)
  line_when (going_on r c e) f w = absurd (not_clear f w c)

  trailing_then : (o : Outcome t) (n : ℕ) → verdict t ≡ Err (Trailing n) → GoesOn (counts_in t) (keys_in t) t n
  trailing_then (accepted p r c e) n h = ok_err p (Trailing n) (sym r ∙ sym as_read ∙ h)
  trailing_then (stopped e r b) n h =
      let x : Line b.fault ≡ Trailing n = b.is ∙ same_err e (Trailing n) (sym r ∙ sym as_read ∙ h) in absurd (let z : ◌≡◌ {A = ℕ} 0 1 = cc in omega arith)
  trailing_then (going_on r c e) n h =
      let x = same_err _ _ (sym r ∙ sym as_read ∙ h) in
      record { right = clear_right (counts_in t) (keys_in t) 1 t c; rest = e; line = same_trailing n (1 + length (keys_in t)) (sym x) }
    where
      same_trailing : (a b : ℕ) → ◌≡◌ {A = TextFault} (Trailing a) (Trailing b) → a ≡ b
      same_trailing a b h = cc

  trailing_when : (o : Outcome t) (n : ℕ) → GoesOn (counts_in t) (keys_in t) t n → verdict t ≡ Err (Trailing n)
  trailing_when (accepted p r c e) n w = absurd (w.rest e)
  trailing_when (stopped e r b) n w =
      none_some b.fault (sym (among (counts_in t) (keys_in t) b.before b.due b.after 1 t (right_clear (counts_in t) (keys_in t) 1 t w.right) b.split) ∙ b.wrong)
  trailing_when (going_on r c e) n w = as_read ∙ r ∙ ap (λ m. Err (Trailing m)) (sym w.line)

-- a text that has a refusal of a line, or goes on, is no longer than it may be
small : (t : List ℕ) (e : TextFault) → (Oversize ≡ e → ⊥) → verdict t ≡ Err e → length t ≤ 16384
small t e other h =
    ⊎_elim
    (λ b. leb-true (length t) 16384 b)
    (λ b. absurd (other (same_err Oversize e (rw b at h))))
    (cases_Bool (leb (length t) 16384))

pub refusals : Refusals
refusals t = record {
  oversize = (
    λ h. ⊎_elim (λ b. absurd (never_oversize t (leb-true (length t) 16384 b) (outcome t) h)) (λ b. leb-false (length t) 16384 b) (cases_Bool (leb (length t) 16384)),
    λ h. let b = lt-leb (length t) 16384 h in rw b,
  );
  in_a_line = λ f. (
    λ h. let l = small t (Line f) (λ x. let z : ◌≡◌ {A = ℕ} 0 1 = cc in omega arith) h in (l, line_then t l (outcome t) f h),
    λ h. line_when t h.0 (outcome t) f h.1,
  );
  trailing = λ n. (
    λ h. let l = small t (Trailing n) (λ x. let z : ◌≡◌ {A = ℕ} 0 1 = cc in omega arith) h in (l, trailing_then t l (outcome t) n h),
    λ h. trailing_when t h.0 (outcome t) n h.1,
  );
}
