-- What a set of numbers below 64 holds. Assumes nothing.
--     bit n w     whether the binary digit n of w is 1, the lowest being digit 0
--     has s n     whether n is a member of s
--     members s   the members of s, ascending
--     Least s n   n is the least member of s
-- `bit`, `has` and `members` stay shut for who builds on this: they argue by what `has` says, never by a word's digits.
use Rattle.std.specs.Prelude.{◌≡◌, ℕ, zero, suc, ◌/◌, ◌%◌, ◌<◌, Bool, true, false, List, filter, ◌==◌}
use Rattle.std.specs.List.{range_with_len}
use Rattle.set64.specs.declared.Set64.{Set64}

unfoldable pub bit : ℕ → ℕ → Bool
bit zero w = w % 2 == 1
bit (suc n) w = bit n (w / 2)

unfoldable pub has : Set64 → ℕ → Bool
has s n = bit n s.word

unfoldable pub members : Set64 → List ℕ
members s = filter (has s) (range_with_len 0 64)

abbrev pub Least : Set64 → ℕ → Type 0
Least s n = (has s n ≡ true) × ((k : ℕ) → k < n → has s k ≡ false)
