-- Values that may be there. Assumes nothing.
use Rattle.std.proofs.Common.{◌≡◌, Some, None, Option, MatchOption, ap}
use Rattle.std.specs.Option.{IsSomeAnd}

-- what is said of the value, said less strongly
pub some_weaker : {A : Type 0} (P : Type 0) {Q : A → Type 0} (R : A → Type 0) (o : Option A) → MatchOption o P Q → ((x : A) → Q x → R x) → MatchOption o P R
some_weaker P R None p step = p
some_weaker P R (Some x) q step = step x q

-- a value of which only y can be meant
pub some_only : {A : Type 0} {Q : A → Type 0} (o : Option A) (y : A) → IsSomeAnd o Q → ((x : A) → Q x → x ≡ y) → o ≡ Some y
some_only None y q only = elim q [ ]
some_only (Some x) y q only = ap (λ z. Some z) (only x q)
