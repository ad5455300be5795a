-- A set is told by its members, and they are below 64. Assumes nothing.
use Rattle.std.proofs.Common.{◌≡◌, ℕ, ◌^◌, ◌<◌, true, ap, ⊎_elim}
use Rattle.std.proofs.lemmas.Bool.{both_ways, cases_lt}
use Rattle.set64.specs.Sets.{has}
use Rattle.set64.specs.declared.Set64.{Set64}
use Rattle.set64.proofs.Digit.{same_word, bit_past}

pub same_set : (a b : Set64) → a.word ≡ b.word → a ≡ b
same_set a b e = ap (λ w. record { word = w }) e

-- two sets with the same members are one set
pub same_members : (a b : Set64) → ((n : ℕ) → has a n ≡ has b n) → a ≡ b
unfolding has
same_members a b h = same_set a b (same_word a.word b.word h)

pub below_64 : (s : Set64) (n : ℕ) → s.word < 2 ^ 64 → has s n ≡ true → n < 64
unfolding has
below_64 s n h t = ⊎_elim (λ l. l) (λ l. absurd (both_ways _ (bit_past 64 n s.word h l) t)) (cases_lt n 64)
