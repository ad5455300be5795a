-- Bytes that a sink takes one after the other. Assumes nothing.
use Rattle.std.proofs.Common.{◌≡◌, ℕ, ◌<◌, List, ◌++◌, length, Ok, Err, Result, IsErr, sym, subst, true≢false, arith, length-append}
use Rattle.chart_writer.specs.Sinks.{Chains, Taken, Puts}

module _ {S : Type 0} {F : Type 0} {room : S → ℕ} {took : S → List ℕ → S → Type 0} where
  -- a sink took bytes, and then is handed more
  pub puts_next : (laws : Chains took) {s t : S} {a : List ℕ} (u : S) (b : List ℕ) (r : Result (Unit {0}) F) → Taken room took s a t → Puts room took t b r u
      → Puts room took s (a ++ b) r u
  puts_next laws {s = s} {t = t} {a = a} u b (Ok v) p q =
      record { bytes_are = laws.more s t u a b p.bytes_are q.bytes_are; left = omega (arith, length-append a b, p.left, q.left) }
  puts_next laws {a = a} u b (Err f) p q = omega (arith, length-append a b, p.left, q)

-- a sink has no room for the bytes
pub puts_none : {S F : Type 0} (room : S → ℕ) (took : S → List ℕ → S → Type 0) (s t : S) (bytes : List ℕ) (r : Result (Unit {0}) F) → IsErr r
    → room s < length bytes → Puts room took s bytes r t
puts_none room took s t bytes (Ok v) e h = absurd (true≢false (sym e))
puts_none room took s t bytes (Err f) e h = h

-- the same bytes, said in another way
pub taken_as : {S : Type 0} {room : S → ℕ} {took : S → List ℕ → S → Type 0} {a b : List ℕ} {s t : S} → a ≡ b → Taken room took s a t → Taken room took s b t
taken_as {room = room} {took = took} {s = s} {t = t} e p = let P : List ℕ → Type 0 = λ x. Taken room took s x t in subst P e p

pub puts_as : {S F : Type 0} (room : S → ℕ) (took : S → List ℕ → S → Type 0) {a b : List ℕ} (s t : S) (r : Result (Unit {0}) F) → a ≡ b → Puts room took s a r t
    → Puts room took s b r t
puts_as room took s t r e p = let P : List ℕ → Type 0 = λ x. Puts room took s x r t in subst P e p
