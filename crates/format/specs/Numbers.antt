-- A number reads back from its spelling, and from nothing else. Assumes nothing.
use Rattle.std.proofs.Common.{◌≡◌, ℕ, ◌+◌, ◌-◌, ◌*◌, ◌/◌, ◌%◌, ◌<◌, ◌≤◌, Bool, true, false, cond, ◌&&◌, ltb, leb, List, [], ◌∷◌, length, Some, None, Option, sym, refl, ap, ◌∙◌, ap₂, ⊎_elim, arith}
use Rattle.std.specs.Option.{option_map}
use Rattle.std.proofs.lemmas.Bool.{lt-ltb, le-ltb, le-leb, cases_lt, and_parts, and_from, leb-true, ltb-true}
use Rattle.format.specs.Bytes.{Free, is_digit, number_of, spelled}
use Rattle.format.specs.Elements.{Spells, numbered, number_no, number_kind}

never : {A : Type 0} {C : Type 0} (a : A) → ◌≡◌ {A = Option A} None (Some a) → C
never a h = absurd (let z : ◌≡◌ {A = ℕ} 0 1 = cc in omega arith)

some_of : {A : Type 0} (t : Bool) (x y : A) → cond t (Some x) None ≡ Some y → (t ≡ true) × (x ≡ y)
some_of true x y h = (refl, cc)
some_of false x y h = never y h

spelled_one : (n : ℕ) → n < 10 → spelled n ≡ (48 + n) ∷ []
spelled_one n h = let t = lt-ltb n 10 h in rw t

spelled_two : (n : ℕ) → 10 ≤ n → spelled n ≡ (48 + n / 10) ∷ ((48 + n % 10) ∷ [])
spelled_two n h = let f = le-ltb n 10 h in rw f

pub number_to : (v : List ℕ) (n : ℕ) → number_of v ≡ Some n → (n < 100) × (v ≡ spelled n)
number_to [] n h = never n h
number_to (a ∷ []) n h =
    let p = some_of (is_digit a) (a - 48) n h in
    let d = and_parts (leb 48 a) (leb a 57) p.0 in
    let lo = leb-true 48 a d.0 in let hi = leb-true a 57 d.1 in let v = p.1 in
    let e : 48 + n ≡ a = omega arith in
    (omega arith, sym (spelled_one n (omega arith) ∙ ap (λ x. x ∷ []) e))
number_to (a ∷ (b ∷ [])) n h =
    let p = some_of (is_digit a && (ltb 48 a && is_digit b)) ((a - 48) * 10 + (b - 48)) n h in
    let d = and_parts (is_digit a) (ltb 48 a && is_digit b) p.0 in
    let f = and_parts (ltb 48 a) (is_digit b) d.1 in
    let g = and_parts (leb 48 a) (leb a 57) d.0 in
    let k = and_parts (leb 48 b) (leb b 57) f.1 in
    let h1 = ltb-true 48 a f.0 in let h2 = leb-true a 57 g.1 in let h3 = leb-true 48 b k.0 in let h4 = leb-true b 57 k.1 in let v = p.1 in
    let e : 48 + n / 10 ≡ a = omega arith in
    let e2 : 48 + n % 10 ≡ b = omega arith in
    (omega arith, sym (spelled_two n (omega arith) ∙ ap₂ (λ x y. x ∷ (y ∷ [])) e e2))
number_to (a ∷ (b ∷ (c ∷ r))) n h = never n h

digit_from : (d : ℕ) → d < 10 → is_digit (48 + d) ≡ true
digit_from d h = and_from (leb 48 (48 + d)) (leb (48 + d) 57) (le-leb 48 (48 + d) (omega arith)) (le-leb (48 + d) 57 (omega arith))

pub number_from : (n : ℕ) → n < 100 → number_of (spelled n) ≡ Some n
number_from n h =
    ⊎_elim
    (λ l. ap number_of (spelled_one n l) ∙ (let t = digit_from n l in let e : 48 + n - 48 ≡ n = omega arith in rw t (ap (λ x. Some x) e)))
    (λ l. ap number_of (spelled_two n l)
    ∙ (let t = digit_from (n / 10) (omega arith) in let t2 = digit_from (n % 10) (omega arith) in
    let t3 = lt-ltb 48 (48 + n / 10) (omega arith) in
    let e : (48 + n / 10 - 48) * 10 + (48 + n % 10 - 48) ≡ n = omega arith in rw (t, t3, t2) (ap (λ x. Some x) e)))
    (cases_lt n 10)

-- a numeral has neither a comma nor a line's end
pub spelled_free : (b n : ℕ) → b < 48 → Free b (spelled n)
spelled_free b n h =
    ⊎_elim
    (λ l. rw (spelled_one n l) (λ e. omega arith, tt))
    (λ l. rw (spelled_two n l) (λ e. omega arith, (λ e. omega arith, tt)))
    (cases_lt n 10)

pub spelled_some : (n : ℕ) → 0 < length (spelled n)
spelled_some n = ⊎_elim (λ l. rw (spelled_one n l) (omega arith)) (λ l. rw (spelled_two n l) (omega arith)) (cases_lt n 10)

pub spelled_short : (n : ℕ) → length (spelled n) ≤ 2
spelled_short n = ⊎_elim (λ l. rw (spelled_one n l) (omega arith)) (λ l. rw (spelled_two n l) (omega arith)) (cases_lt n 10)

pub mapped_ok : {E : Type 0} (make : ℕ → E) (num : E → ℕ) → ((n : ℕ) → num (make n) ≡ n) → (o : Option ℕ) (e : E) → option_map make o ≡ Some e → o ≡ Some (num e)
mapped_ok make num back None e h = never e h
mapped_ok make num back (Some n) e h = let q : make n ≡ e = cc in ap (λ x. Some x) (sym (back n) ∙ ap num q)

-- an element that is a number, with its limits below 100
pub numbered_exact : {E : Type 0} (make : ℕ → E) (num : E → ℕ) (after : E → E → Bool) (inside : ℕ → E → Bool)
    → ((n : ℕ) → num (make n) ≡ n) → ((e : E) → make (num e) ≡ e) → ((limit : ℕ) → limit ≤ 100 → (e : E) → inside limit e ≡ true → num e < 100)
    → Spells (numbered make num after inside) 2
numbered_exact make num after inside back forth small = record {
  to = λ v e h. (number_to v (num e) (mapped_ok make num back (number_of v) e h)).1;
  from = λ limit l e h. ap (option_map make) (number_from (num e) (small limit l e h)) ∙ ap (λ x. Some x) (forth e);
  some = λ e. spelled_some (num e);
  short = λ e. spelled_short (num e);
  free = λ b h e. spelled_free b (num e) h;
}

-- within its limits: the least number, and the limit that it is below
pub bounds_to : (least limit n : ℕ) → (leb least n && ltb n limit) ≡ true → (least ≤ n) × (n < limit)
bounds_to least limit n h = let g = and_parts (leb least n) (ltb n limit) h in (leb-true least n g.0, ltb-true n limit g.1)

pub bounds_from : (least limit n : ℕ) → least ≤ n → n < limit → (leb least n && ltb n limit) ≡ true
bounds_from least limit n l h = and_from (leb least n) (ltb n limit) (le-leb least n l) (lt-ltb n limit h)

-- numbers of anything, from some least one on
pub number_exact : {R : Type 0} (least : ℕ) (ascends : Bool) → Spells (number_kind {R = R} least ascends) 2
number_exact least ascends =
    numbered_exact number_no (λ x. x.0) _ _ (λ n. refl) (λ x. refl) (λ limit l x h. omega (arith, (bounds_to least limit x.0 h).1))
