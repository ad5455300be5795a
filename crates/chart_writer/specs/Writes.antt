-- What it is to write bytes at the start of a buffer. Assumes nothing.
--     comma_at i                 what stands before element i of a list: nothing before the first, else a comma
--     Put bytes old n new        the buffer old with the n bytes at its start is new
--     Unwritten bytes old new    the bytes are longer than the buffer old, and new is old
--     Written bytes old r new    the answer r: the bytes are written, or the buffer is too short and stays as it was
use Rattle.std.specs.Prelude.{◌≡◌, ℕ, zero, suc, ◌<◌, List, [], ◌∷◌, ◌++◌, length, drop, Ok, Err, Result}

abbrev pub comma_at : ℕ → List ℕ
comma_at zero = []
comma_at (suc i) = 44 ∷ []

pub record Put (bytes old : List ℕ) (n : ℕ) (new : List ℕ) : Type 0 where
  pub count : n ≡ length bytes
  pub after : new ≡ bytes ++ drop n old

pub record Unwritten (bytes old new : List ℕ) : Type 0 where
  pub short : length old < length bytes
  pub same : new ≡ old

abbrev pub Written : {F : Type 0} → List ℕ → List ℕ → Result ℕ F → List ℕ → Type 0
Written bytes old (Ok n) new = Put bytes old n new
Written bytes old (Err f) new = Unwritten bytes old new
