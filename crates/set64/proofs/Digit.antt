-- The binary digits of what the word's operations give: `bit` is std's `bit_at` as a test, and what std says of `bit_at` is said of `bit` here. Assumes nothing.
use Rattle.std.proofs.Common.{◌≡◌, ℕ, zero, suc, ◌-◌, ◌*◌, ◌/◌, ◌%◌, ◌^◌, ◌<◌, ◌≤◌, Bool, true, false, not, ◌&&◌, ◌||◌, eqb, bit_and, bit_or, sym, ap, ◌∙◌, ⊎_elim, arith, w64}
use Rattle.std.specs.Int.{bit_at}
use Rattle.std.specs.Int.Bits.{and_lt}
use Rattle.std.specs.Int.Count.{count_trailing_zeros}
use Rattle.std.proofs.lemmas.Nat.{one_shl}
use Rattle.std.proofs.lemmas.Nat.Bits.{bit_at_lowest, bit_at-suc, bit_at-zero, bit_at-lt, bit_at_and, bit_at_or, bit_at_not, bit_at_above, bit_at-pow_same, bit_at-pow_other, bit_at-trailing_zeros, same_from_bits}
use Rattle.std.proofs.lemmas.Bool.{cases_lt, cases_eq, and_from, and_parts, both_ways}
use Rattle.std.proofs.lemmas.Bool.Decides.{nat_tests}
use Rattle.set64.specs.Sets.{bit}

pub bit_is : (n w : ℕ) → bit n w ≡ eqb (bit_at w n) 1
unfolding bit
bit_is zero w = ap (λ d. eqb d 1) (sym (bit_at_lowest w))
bit_is (suc n) w = bit_is n (w / 2) ∙ ap (λ d. eqb d 1) (sym (bit_at-suc w n))

pub bit_zero : (n : ℕ) → bit n 0 ≡ false
bit_zero n = bit_is n 0 ∙ ap (λ d. eqb d 1) (bit_at-zero n)

-- The digits of w are those of v. That w is v comes last, as a fact of its own: where the code computes another word, that is what fails.
pub digit_of : (n w v : ℕ) (x : Bool) → bit n v ≡ x → w ≡ v → bit n w ≡ x
digit_of n w v x h e = ap (bit n) e ∙ h

pub or_bit : (n a b : ℕ) → bit n (bit_or a b) ≡ (bit n a || bit n b)
or_bit n a b = grind (arith, nat_tests, bit_is n (bit_or a b), bit_is n a, bit_is n b, bit_at_or a b n)

pub and_bit : (n a b : ℕ) → bit n (bit_and a b) ≡ (bit n a && bit n b)
and_bit n a b = grind (arith, nat_tests, bit_is n (bit_and a b), bit_is n a, bit_is n b, bit_at_and a b n)

pub bit_past : (k n w : ℕ) → w < 2 ^ k → k ≤ n → bit n w ≡ false
bit_past k n w h l = bit_is n w ∙ ap (λ d. eqb d 1) (bit_at_above w k n h l)

-- numbers with the same digits are equal
pub same_word : (a b : ℕ) → ((n : ℕ) → bit n a ≡ bit n b) → a ≡ b
same_word a b h = same_from_bits a b (λ n. grind (arith, nat_tests, h n, bit_is n a, bit_is n b, bit_at-lt a n, bit_at-lt b n))

-- in a word of 64 digits: a and not b
pub without_bit : (n a b : ℕ) → a < 2 ^ 64 → b < 2 ^ 64 → bit n (bit_and a (2 ^ 64 - 1 - b)) ≡ (bit n a && not (bit n b))
without_bit n a b p q =
    and_bit n a (2 ^ 64 - 1 - b)
    ∙ ⊎_elim
    (λ l. grind (arith, nat_tests, bit_is n (2 ^ 64 - 1 - b), bit_is n b, bit_at_not w64 b n q l))
    (λ l. grind (arith, nat_tests, bit_past 64 n a p l))
    (cases_lt n 64)

-- t is the lowest digit of w that is 1, in a word of 64 digits
abbrev pub Lowest : ℕ → ℕ → Type 0
Lowest w t = (t < 64) × (bit t w ≡ true) × ((j : ℕ) → j < t → bit j w ≡ false)

pub trailing_lowest : (w : ℕ) → 0 < w → w < 2 ^ 64 → Lowest w (count_trailing_zeros 64 w)
trailing_lowest w p h =
    let low = bit_at-trailing_zeros w64 w p h in
    let t = count_trailing_zeros 64 w in
    (low.0, bit_is t w ∙ ap (λ d. eqb d 1) low.1, λ j l. bit_is j w ∙ ap (λ d. eqb d 1) (low.2 j l))

-- `1 << n` of 64 bits
pub shifted_bit : (m n : ℕ) → n < 64 → bit m ((1 * 2 ^ n) % 2 ^ 64) ≡ eqb m n
shifted_bit m n h =
    ap (bit m) (one_shl n 64 h) ∙ bit_is m (2 ^ n)
    ∙ ⊎_elim
    (λ e. let d : bit_at (2 ^ n) m ≡ 1 = ap (bit_at (2 ^ n)) e ∙ bit_at-pow_same n in grind (arith, nat_tests))
    (λ ne. let d = bit_at-pow_other n m ne in grind (arith, nat_tests))
    (cases_eq m n)

-- a digit that is not set is not missed
pub absent_bit : (w m n : ℕ) → bit n w ≡ false → bit m w ≡ (bit m w && not (eqb m n))
absent_bit w m n h = grind (arith, nat_tests)

-- two words have a digit 1 in common just where `&` of them is not 0
pub common_bit : (a b : ℕ) → a < 2 ^ 64 → b < 2 ^ 64 → 0 < bit_and a b → (m : ℕ) × (bit m a ≡ true) × (bit m b ≡ true)
common_bit a b p q more =
    let t = count_trailing_zeros 64 (bit_and a b) in
    let low = trailing_lowest (bit_and a b) more (and_lt 64 a b p q) in
    let both = and_parts (bit t a) (bit t b) (sym (and_bit t a b) ∙ low.1) in
    (t, both.0, both.1)

pub common_more : (a b m : ℕ) → bit m a ≡ true → bit m b ≡ true → 0 < bit_and a b
common_more a b m p q =
    ⊎_elim
    (λ e. absurd (both_ways _ (ap (bit m) e ∙ bit_zero m) (and_bit m a b ∙ and_from _ _ p q)))
    (λ ne. omega arith)
    (cases_eq (bit_and a b) 0)
