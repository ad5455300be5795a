-- What it is for a sink to take bytes. Assumes nothing.
--     Chains took              bytes that a sink took one after the other are bytes that it took
--     Puts room took s b r t   the answer r of the sink s to the bytes b: it took them, is t and has room for so many
--                              fewer; or it has no room for them
--     Extends b m old n new    the page old, of which m bytes were written, is new with the bytes b behind those, and n are written
use Rattle.std.specs.Prelude.{◌≡◌, ℕ, ◌+◌, ◌<◌, List, [], ◌++◌, length, Ok, Err, Result}
use Rattle.std.proofs.Common.{sym, subst, append-nil, append_assoc}
use Rattle.chart_writer.specs.Writes.{Put}

pub record Chains {S : Type 0} (took : S → List ℕ → S → Type 0) : Type 0 where
  pub nothing : (s : S) → took s [] s
  pub more : (s t u : S) (a b : List ℕ) → took s a t → took t b u → took s (a ++ b) u

pub record Taken {S : Type 0} (room : S → ℕ) (took : S → List ℕ → S → Type 0) (s : S) (bytes : List ℕ) (t : S) : Type 0 where
  pub bytes_are : took s bytes t
  pub left : room t + length bytes ≡ room s

abbrev pub Puts : {S F : Type 0} → (S → ℕ) → (S → List ℕ → S → Type 0) → S → List ℕ → Result (Unit {0}) F → S → Type 0
Puts room took s bytes (Ok u) t = Taken room took s bytes t
Puts room took s bytes (Err f) t = room s < length bytes

pub record Extends (bytes : List ℕ) (m : ℕ) (old : List ℕ) (n : ℕ) (new : List ℕ) : Type 0 where
  pub extends : (done page : List ℕ) → Put done page m old → Put (done ++ bytes) page n new

put_as : {a b old new : List ℕ} {n : ℕ} → a ≡ b → Put a old n new → Put b old n new
put_as {old = old} {new = new} {n = n} e p = let P : List ℕ → Type 0 = λ x. Put x old n new in subst P e p

pub extends_nothing : (m : ℕ) (old : List ℕ) → Extends [] m old m old
extends_nothing m old = record { extends = λ done page p. put_as (sym (append-nil done)) p }

pub extends_more : (a b : List ℕ) (m : ℕ) (old : List ℕ) (n : ℕ) (mid : List ℕ) (k : ℕ) (new : List ℕ) → Extends a m old n mid → Extends b n mid k new
    → Extends (a ++ b) m old k new
extends_more a b m old n mid k new p q = record {
  extends = λ done page h. put_as (append_assoc done a b) (q.extends (done ++ a) page (p.extends done page h));
}
