-- The members of a set as a list, one member less, and its length. Assumes nothing.
use Rattle.std.proofs.Common.{◌≡◌, ℕ, zero, suc, ◌+◌, ◌/◌, ◌%◌, ◌^◌, ◌<◌, ◌≤◌, Bool, true, false, cond, not, ◌&&◌, eqb, [], ◌∷◌, length, filter, sym, refl, ap, ◌∙◌, ap₂, ⊎_elim, add-zero, pow-suc, zero-add, arith}
use Rattle.std.specs.Int.Count.{ones, ones_step}
use Rattle.std.proofs.lemmas.Nat.{ones-le}
use Rattle.std.specs.List.{range_with_len}
use Rattle.std.proofs.lemmas.List.Sums.{length-filter, count_by-le-length}
use Rattle.std.proofs.lemmas.Bool.{cases_eq, cases_Bool, and_left, and_right, not_from_true, eq-eqb, eqb-true, eqb-false}
use Rattle.std.proofs.lemmas.Bool.Decides.{nat_tests}
use Rattle.set64.specs.Sets.{bit, has, members, Least}
use Rattle.set64.specs.declared.Set64.{Set64}

kept_none : (p : ℕ → Bool) (a k : ℕ) → ((j : ℕ) → p j ≡ false) → filter p (range_with_len a k) ≡ []
kept_none p a zero h = refl
kept_none p a (suc k) h = rw (h a) (kept_none p (a + 1) k h)

kept_same : (p q : ℕ → Bool) (a k : ℕ) → ((j : ℕ) → a ≤ j → p j ≡ q j) → filter p (range_with_len a k) ≡ filter q (range_with_len a k)
kept_same p q a zero h = refl
kept_same p q a (suc k) h =
    let ih = kept_same p q (a + 1) k (λ j l. h j (omega arith)) in
    ap₂ (λ t r. cond t (a ∷ r) r) (h a (omega arith)) ih

kept_next : (p q : ℕ → Bool) (n a k : ℕ) → p n ≡ true → ((j : ℕ) → j < n → p j ≡ false) → ((m : ℕ) → q m ≡ (p m && not (eqb m n)))
    → a ≤ n → n < a + k → filter p (range_with_len a k) ≡ n ∷ filter q (range_with_len a k)
kept_next p q n a zero t low d lo hi = absurd (omega arith)
kept_next p q n a (suc k) t low d lo hi =
    ⊎_elim
    (λ e. let pa : p a ≡ true = ap p e ∙ t in
    let qa : q a ≡ false = d a ∙ and_right (p a) (not (eqb a n)) (not_from_true (eqb a n) (eq-eqb a n e)) in
    rw (pa, qa) (ap₂ (λ x r. x ∷ r) e (kept_same p q (a + 1) k (λ j l. let dj = d j in grind (arith, nat_tests)))))
    (λ ne. let pa : p a ≡ false = low a (omega arith) in
    let qa : q a ≡ false = d a ∙ and_left (p a) (not (eqb a n)) pa in
    rw (pa, qa) (kept_next p q n (a + 1) k t low d (omega arith) (omega arith)))
    (cases_eq a n)

ones_kept : (p : ℕ → Bool) (a k w : ℕ) → w < 2 ^ k → ((j : ℕ) → p (a + j) ≡ bit j w) → length (filter p (range_with_len a k)) ≡ ones w
unfolding bit
ones_kept p a zero w h s = omega (arith, ones-le 0 w h)
ones_kept p a (suc k) w h s =
    let at : (j : ℕ) → p (a + 1 + j) ≡ bit j (w / 2) = (λ j. let e : a + 1 + j ≡ a + suc j = omega arith in ap p e ∙ s (suc j)) in
    let ih = ones_kept p (a + 1) k (w / 2) (omega (arith, pow-suc 2 k)) at in
    let here : p a ≡ eqb (w % 2) 1 = ap p (sym (add-zero a)) ∙ s 0 in
    ⊎_elim
    (λ t. rw t (omega (arith, ih, ones_step w, eqb-true (w % 2) 1 (sym here ∙ t))))
    (λ f. rw f (let ne = eqb-false (w % 2) 1 (sym here ∙ f) in omega (arith, ih, ones_step w)))
    (cases_Bool (p a))

pub members_none : (s : Set64) → ((m : ℕ) → has s m ≡ false) → members s ≡ []
unfolding members
members_none s h = kept_none (has s) 0 64 h

-- the least member comes first, and what is left without it comes then
pub members_next : (s r : Set64) (n : ℕ) → n < 64 → Least s n → ((m : ℕ) → has r m ≡ (has s m && not (eqb m n))) → members s ≡ n ∷ members r
unfolding members
members_next s r n lt least d = kept_next (has s) (has r) n 0 64 least.0 least.1 d (omega arith) (omega arith)

pub length_members_le : (s : Set64) → length (members s) ≤ 64
unfolding members
length_members_le s = let p = has s in let xs = range_with_len 0 64 in omega (arith, length-filter p xs, count_by-le-length p xs)

pub length_members : (s : Set64) → s.word < 2 ^ 64 → length (members s) ≡ ones s.word
unfolding members has
length_members s h = ones_kept (has s) 0 64 s.word h (λ j. ap (λ x. bit x s.word) (zero-add j))
