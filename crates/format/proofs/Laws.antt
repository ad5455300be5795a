-- Readers that read exactly what is spelled: one line, one after the other, many times, under other names, and to the
-- end of the text. Assumes nothing.
use Rattle.std.proofs.Common.{◌≡◌, ℕ, zero, suc, ◌+◌, ◌-◌, ◌<◌, ◌≤◌, leb, List, [], ◌∷◌, ◌++◌, length, Some, None, Ok, Err, Option, Result, sym, refl, ap, ◌∙◌, subst, ap₂, arith}
use Rattle.std.specs.List.{flat_map, AllByRecursion}
use Rattle.std.proofs.ByRecursion.{All-append}
use Rattle.std.proofs.lemmas.List.{append_assoc, append-nil, length-append}
use Rattle.std.proofs.lemmas.Bool.{le-leb}
use Rattle.format.specs.Bytes.{Free, cut_at, after_key}
use Rattle.format.specs.Elements.{and_then}
use Rattle.format.specs.Readers.{Reader, keyed, measured, line_at, in_line, value_at, in_text, field, both, times, rows_behind, named, ended, Whole, Exact}
use Rattle.format.specs.declared.fault.ElementFault.{ElementFault}
use Rattle.format.specs.declared.fault.LineFault.{LineFault}
use Rattle.format.specs.declared.fault.LineFault.TheVariants.{Unended, Overlong, WrongKey, Element}
use Rattle.format.specs.declared.fault.TextFault.{TextFault}
use Rattle.format.specs.declared.fault.TextFault.TheVariants.{Line, Trailing}
use Rattle.format.proofs.Cuts.{cut_to, cut_from, after_to, after_from}
use Rattle.format.proofs.Lists.{never, same_ok, then_ok, if_ok}

-- ---- one line

keyed_ok : (n : ℕ) (rest : List ℕ) (o : Option (List ℕ)) (p : List ℕ × List ℕ) → keyed n rest o ≡ Ok p → (o ≡ Some p.0) × (rest ≡ p.1)
keyed_ok n rest None p h = never (WrongKey n) p h
keyed_ok n rest (Some v) p h = let e = same_ok (v, rest) p h in (ap (λ (x : List ℕ × List ℕ). Some x.0) e, ap (λ (x : List ℕ × List ℕ). x.1) e)

measured_ok : (key : List ℕ) (n : ℕ) (o : Option (List ℕ × List ℕ)) (p : List ℕ × List ℕ) → measured key n o ≡ Ok p → o ≡ Some (key ++ p.0, p.1)
measured_ok key n None p h = never (Unended n) p h
measured_ok key n (Some q) p h =
    let k = keyed_ok n q.1 (after_key key q.0) p (if_ok (leb (length q.0) 96) (keyed n q.1 (after_key key q.0)) (Overlong n) p h).1 in
    ap₂ (λ x y. Some (x, y)) (after_to key q.0 p.0 k.0) k.1

abbrev past : Option (List ℕ × List ℕ) → List ℕ
past None = []
past (Some p) = p.1

line_to : (key : List ℕ) (n : ℕ) (t : List ℕ) (p : List ℕ × List ℕ) → line_at key n t ≡ Ok p → t ≡ (key ++ p.0) ++ (10 ∷ p.1)
line_to key n t p h = cut_to 10 t (key ++ p.0, p.1) (measured_ok key n (cut_at 10 t) p h)

-- what follows the line is what follows its end
pub line_rest : (key : List ℕ) (n : ℕ) (t : List ℕ) (p : List ℕ × List ℕ) → line_at key n t ≡ Ok p → p.1 ≡ past (cut_at 10 t)
line_rest key n t p h = sym (ap past (measured_ok key n (cut_at 10 t) p h))

line_from : (key : List ℕ) (n : ℕ) (v r : List ℕ) → Free 10 key → Free 10 v → length (key ++ v) ≤ 96 → line_at key n ((key ++ v) ++ (10 ∷ r)) ≡ Ok (v, r)
line_from key n v r f g l =
    let t = le-leb (length (key ++ v)) 96 l in
    ap (measured key n) (cut_from 10 (key ++ v) r (All-append (λ x. x ≡ 10 → ⊥) key v f g)) ∙ (rw t (ap (keyed n r) (after_from key v)))

in_line_ok : {A : Type 0} (n : ℕ) (r : List ℕ) (x : Result A ElementFault) (y : A × List ℕ) → in_line n r x ≡ Ok y → (x ≡ Ok y.0) × (r ≡ y.1)
in_line_ok n r (Err f) y h = never (Element n f) y h
in_line_ok {A} n r (Ok a) y h = let e = same_ok (a, r) y h in (ap (λ (z : A × List ℕ). Ok z.0) e, ap (λ (z : A × List ℕ). z.1) e)

in_text_ok : {X : Type 0} (x : Result X LineFault) (y : X) → in_text x ≡ Ok y → x ≡ Ok y
in_text_ok (Ok x) y h = ap (λ z. Ok z) (same_ok x y h)
in_text_ok (Err f) y h = never (Line f) y h

-- what a field that was read is made of: its line, its value, and the rest
pub field_parts : {A : Type 0} (f : List ℕ → Result A ElementFault) (key : List ℕ) (n : ℕ) (t : List ℕ) (a : A) (r : List ℕ) → field f key n t ≡ Ok (a, r)
    → (p : List ℕ × List ℕ) × (line_at key n t ≡ Ok p) × (f p.0 ≡ Ok a) × (p.1 ≡ r)
field_parts f key n t a r h =
    let g = then_ok (line_at key n t) (λ p. in_line n p.1 (f p.0)) (a, r) (in_text_ok (value_at f key n t) (a, r) h) in
    let k = in_line_ok n g.0.1 (f g.0.0) (a, r) g.2 in (g.0, g.1, k.0, k.1)

module _ {A : Type 0} (f : List ℕ → Result A ElementFault) (good : A → Type 0) (spell : A → List ℕ) (key : List ℕ) (whole : Whole f good spell) (clear : Free 10 key) (brief : length key ≤ 16) where
  pub field_exact : Exact (field f key) good (λ a. key ++ (spell a ++ (10 ∷ [])))
  field_exact = record {
    to = λ n t a r h.
        let g = field_parts f key n t a r h in
        let w = whole.to g.0.0 a g.2 in
        (w.0, line_to key n t g.0 g.1 ∙ ap₂ (λ x y. (key ++ x) ++ (10 ∷ y)) w.1 g.3 ∙ simp append_assoc);
    from = λ n a r g.
        let e : (key ++ (spell a ++ (10 ∷ []))) ++ r ≡ (key ++ spell a) ++ (10 ∷ r) = simp append_assoc in
        let l : length (key ++ spell a) ≤ 96 = omega (arith, length-append key (spell a), whole.short a g) in
        ap (λ x. in_text (and_then x (λ p. in_line n p.1 (f p.0)))) (ap (line_at key n) e ∙ line_from key n (spell a) r clear (whole.free a g) l)
        ∙ ap (λ x. in_text (in_line n r x)) (whole.from a g);
  }

-- ---- one after the other

module _ {A B : Type 0} (m : ℕ) (p : Reader A) (q : A → Reader B) (good : A → Type 0) (spell : A → List ℕ) (good2 : A → B → Type 0) (spell2 : A → B → List ℕ)
    (first : Exact p good spell) (second : (a : A) → good a → Exact (q a) (good2 a) (spell2 a)) where
  pub both_exact : Exact (both m p q) (λ x. good x.0 × good2 x.0 x.1) (λ x. spell x.0 ++ spell2 x.0 x.1)
  both_exact = record {
    to = λ n t x r h.
        let g = then_ok (p n t) (λ y. and_then (q y.0 (n + m) y.1) (λ z. Ok ((y.0, z.0), z.1))) (x, r) h in
        let j = then_ok (q g.0.0 (n + m) g.0.1) (λ z. Ok ((g.0.0, z.0), z.1)) (x, r) g.2 in
        let u = first.to n t g.0.0 g.0.1 g.1 in
        let v = (second g.0.0 u.0).to (n + m) g.0.1 j.0.0 j.0.1 j.1 in
        let P : (A × B) × List ℕ → Type 0 = λ w. (good w.0.0 × good2 w.0.0 w.0.1) × (t ≡ (spell w.0.0 ++ spell2 w.0.0 w.0.1) ++ w.1) in
        subst P (same_ok ((g.0.0, j.0.0), j.0.1) (x, r) j.2)
        ((u.0, v.0), u.1 ∙ ap (λ s. spell g.0.0 ++ s) v.1 ∙ sym (append_assoc (spell g.0.0) (spell2 g.0.0 j.0.0) j.0.1));
    from = λ n x r h.
        ap (λ s. both m p q n s) (append_assoc (spell x.0) (spell2 x.0 x.1) r)
        ∙ ap (λ w. and_then w (λ y. and_then (q y.0 (n + m) y.1) (λ z. Ok ((y.0, z.0), z.1)))) (first.from n x.0 (spell2 x.0 x.1 ++ r) h.0)
        ∙ ap (λ w. and_then w (λ z. Ok ((x.0, z.0), z.1))) ((second x.0 h.0).from (n + m) x.1 r h.1);
  }

-- what two readers that read one after the other read
pub both_parts : {A B : Type 0} (m : ℕ) (p : Reader A) (q : A → Reader B) (n : ℕ) (t : List ℕ) (x : A × B) (r : List ℕ) → both m p q n t ≡ Ok (x, r)
    → (r1 : List ℕ) × (p n t ≡ Ok (x.0, r1)) × (q x.0 (n + m) r1 ≡ Ok (x.1, r))
both_parts {A} {B} m p q n t x r h =
    let g = then_ok (p n t) (λ y. and_then (q y.0 (n + m) y.1) (λ z. Ok ((y.0, z.0), z.1))) (x, r) h in
    let j = then_ok (q g.0.0 (n + m) g.0.1) (λ z. Ok ((g.0.0, z.0), z.1)) (x, r) g.2 in
    let P : (A × B) × List ℕ → Type 0 = λ w. (r1 : List ℕ) × (p n t ≡ Ok (w.0.0, r1)) × (q w.0.0 (n + m) r1 ≡ Ok (w.0.1, w.1)) in
    subst P (same_ok ((g.0.0, j.0.0), j.0.1) (x, r) j.2) (g.0.1, g.1, j.1)

-- ---- under other names

module _ {A B : Type 0} (f : A → B) (g : B → A) (p : Reader A) (good : A → Type 0) (spell : A → List ℕ) (good2 : B → Type 0) (exact : Exact p good spell)
    (back : (a : A) → good a → g (f a) ≡ a) (forth : (b : B) → f (g b) ≡ b) (into : (a : A) → good a → good2 (f a)) (out : (b : B) → good2 b → good (g b)) where
  pub named_exact : Exact (named f p) good2 (λ b. spell (g b))
  named_exact = record {
    to = λ n t b r h.
        let k = then_ok (p n t) (λ x. Ok (f x.0, x.1)) (b, r) h in
        let a = k.0.0 in
        let e = same_ok (f a, k.0.1) (b, r) k.2 in
        let u = exact.to n t a k.0.1 k.1 in
        let P : B × List ℕ → Type 0 = λ w. good2 w.0 × (t ≡ spell (g w.0) ++ w.1) in
        subst P e (into a u.0, u.1 ∙ ap (λ x. spell x ++ k.0.1) (sym (back a u.0)));
    from = λ n b r h.
        ap (λ x. and_then x (λ x. Ok (f x.0, x.1))) (exact.from n (g b) r (out b h)) ∙ ap (λ x. Ok (x, r)) (forth b);
  }

-- ---- many times

module _ {A : Type 0} (m : ℕ) (p : Reader A) (good : A → Type 0) (spell : A → List ℕ) (each : Exact p good spell) where
  times_to : (c n : ℕ) (t : List ℕ) (xs : List A) (r : List ℕ) → times c m p n t ≡ Ok (xs, r) → ((length xs ≡ c) × AllByRecursion good xs) × (t ≡ flat_map spell xs ++ r)
  times_to zero n t xs r h =
      let P : List A × List ℕ → Type 0 = λ w. ((length w.0 ≡ zero) × AllByRecursion good w.0) × (t ≡ flat_map spell w.0 ++ w.1) in
      subst P (same_ok ([], t) (xs, r) h) ((refl, tt), refl)
  times_to (suc c) n t xs r h =
      let g = then_ok (p n t) (λ x. and_then (times c m p (n + m) x.1) (λ y. Ok (x.0 ∷ y.0, y.1))) (xs, r) h in
      let x = g.0.0 in
      let j = then_ok (times c m p (n + m) g.0.1) (λ y. Ok (x ∷ y.0, y.1)) (xs, r) g.2 in
      let u = each.to n t x g.0.1 g.1 in
      let v = times_to c (n + m) g.0.1 j.0.0 j.0.1 j.1 in
      let P : List A × List ℕ → Type 0 = λ w. ((length w.0 ≡ suc c) × AllByRecursion good w.0) × (t ≡ flat_map spell w.0 ++ w.1) in
      subst P (same_ok (x ∷ j.0.0, j.0.1) (xs, r) j.2)
      ((ap suc v.0.0, (u.0, v.0.1)), u.1 ∙ ap (λ s. spell x ++ s) v.1 ∙ sym (append_assoc (spell x) (flat_map spell j.0.0) j.0.1))

  times_from : (xs : List A) (n : ℕ) (r : List ℕ) → AllByRecursion good xs → times (length xs) m p n (flat_map spell xs ++ r) ≡ Ok (xs, r)
  times_from [] n r h = refl
  times_from (x ∷ xs) n r h =
      ap (λ s. times (suc (length xs)) m p n s) (append_assoc (spell x) (flat_map spell xs) r)
      ∙ ap (λ w. and_then w (λ x. and_then (times (length xs) m p (n + m) x.1) (λ y. Ok (x.0 ∷ y.0, y.1)))) (each.from n x (flat_map spell xs ++ r) h.0)
      ∙ ap (λ w. and_then w (λ y. Ok (x ∷ y.0, y.1))) (times_from xs (n + m) r h.1)

  pub times_exact : (c : ℕ) → Exact (times c m p) (λ xs. (length xs ≡ c) × AllByRecursion good xs) (flat_map spell)
  times_exact c = record {
    to = times_to c;
    from = λ n xs r h. ap (λ l. times l m p n (flat_map spell xs ++ r)) (sym h.0) ∙ times_from xs n r h.1;
  }

pub times_length : {A : Type 0} (c m : ℕ) (p : Reader A) (n : ℕ) (t : List ℕ) (xs : List A) (r : List ℕ) → times c m p n t ≡ Ok (xs, r) → length xs ≡ c
times_length {A} zero m p n t xs r h = sym (ap (λ (w : List A × List ℕ). length w.0) (same_ok ([], t) (xs, r) h))
times_length {A} (suc c) m p n t xs r h =
    let g = then_ok (p n t) (λ x. and_then (times c m p (n + m) x.1) (λ y. Ok (x.0 ∷ y.0, y.1))) (xs, r) h in
    let j = then_ok (times c m p (n + m) g.0.1) (λ y. Ok (g.0.0 ∷ y.0, y.1)) (xs, r) g.2 in
    sym (ap (λ (w : List A × List ℕ). length w.0) (same_ok (g.0.0 ∷ j.0.0, j.0.1) (xs, r) j.2)) ∙ ap suc (times_length c m p (n + m) g.0.1 j.0.0 j.0.1 j.1)

-- the loop over rows

module _ {A : Type 0} (m : ℕ) (p : Reader A) where
  pub times_more : (acc : List A) (c n : ℕ) (t : List ℕ) (x : A) (r : List ℕ) → 0 < c → p n t ≡ Ok (x, r)
      → rows_behind (acc ++ (x ∷ [])) (times (c - 1) m p (n + m) r) ≡ rows_behind acc (times c m p n t)
  times_more acc zero n t x r h e = absurd (omega arith)
  times_more acc (suc c) n t x r h e =
      let z : suc c - 1 ≡ c = omega arith in
      ap (λ i. rows_behind (acc ++ (x ∷ [])) (times i m p (n + m) r)) z
      ∙ regroup (times c m p (n + m) r)
      ∙ ap (λ y. rows_behind acc (and_then y (λ x. and_then (times c m p (n + m) x.1) (λ y. Ok (x.0 ∷ y.0, y.1))))) (sym e)
    where
      regroup : (w : Result (List A × List ℕ) TextFault) → rows_behind (acc ++ (x ∷ [])) w ≡ rows_behind acc (and_then w (λ y. Ok (x ∷ y.0, y.1)))
      regroup (Ok y) = ap (λ xs. Ok (xs, y.1)) (append_assoc acc (x ∷ []) y.0)
      regroup (Err f) = refl

  pub times_stop : (acc : List A) (c n : ℕ) (t : List ℕ) (f : TextFault) → 0 < c → p n t ≡ Err f → rows_behind acc (times c m p n t) ≡ Err f
  times_stop acc zero n t f h e = absurd (omega arith)
  times_stop acc (suc c) n t f h e = ap (λ y. rows_behind acc (and_then y (λ x. and_then (times c m p (n + m) x.1) (λ y. Ok (x.0 ∷ y.0, y.1))))) e

  pub times_done : (acc : List A) (c n : ℕ) (t : List ℕ) → c ≡ 0 → rows_behind acc (times c m p n t) ≡ Ok (acc, t)
  times_done acc zero n t h = ap (λ xs. Ok (xs, t)) (append-nil acc)
  times_done acc (suc c) n t h = absurd (omega arith)

  pub times_start : (c n : ℕ) (t : List ℕ) → rows_behind [] (times c m p n t) ≡ times c m p n t
  times_start c n t = same (times c m p n t)
    where
      same : (w : Result (List A × List ℕ) TextFault) → rows_behind [] w ≡ w
      same (Ok y) = refl
      same (Err f) = refl

-- ---- to the end

ended_ok : {A : Type 0} (n : ℕ) (x : A × List ℕ) (a : A) → ended n x ≡ Ok a → x ≡ (a, [])
ended_ok n (b, []) a h = ap (λ y. (y, [])) (same_ok b a h)
ended_ok n (b, c ∷ r) a h = never (Trailing n) a h

pub whole_text : {A : Type 0} (p : Reader A) (good : A → Type 0) (spell : A → List ℕ) (last : A → ℕ) → Exact p good spell
    → (t : List ℕ) (a : A) → (and_then (p 1 t) (λ x. ended (last x.0) x) ≡ Ok a → good a × (t ≡ spell a)) × (good a × (t ≡ spell a) → and_then (p 1 t) (λ x. ended (last x.0) x) ≡ Ok a)
whole_text p good spell last exact t a = (
  λ h. let g = then_ok (p 1 t) (λ x. ended (last x.0) x) a h in
      let w = exact.to 1 t a [] (g.1 ∙ ap (λ x. Ok x) (ended_ok (last g.0.0) g.0 a g.2)) in
      (w.0, w.1 ∙ append-nil (spell a)),
  λ h. ap (λ x. and_then x (λ x. ended (last x.0) x)) (ap (p 1) (h.1 ∙ sym (append-nil (spell a))) ∙ exact.from 1 a [] h.0),
)
