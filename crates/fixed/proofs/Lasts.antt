-- The last of a list. Assumes nothing.
use Rattle.std.proofs.Common.{◌≡◌, suc, ◌-◌, List, [], ◌∷◌, ◌++◌, length, Some, refl, ap, ◌∙◌, arith}
use Rattle.std.specs.List.{slice_get}
use Rattle.fixed.specs.Items.{last_of}

-- the last is what stands in the last place
pub last_read : {E : Type 0} (xs : List E) → slice_get xs (length xs - 1) ≡ last_of xs
last_read [] = refl
last_read (x ∷ []) = refl
last_read {E = E} (x ∷ (y ∷ r)) =
    let n : length (x ∷ (y ∷ r)) - 1 ≡ suc (length (y ∷ r) - 1) = omega arith in
    ap (slice_get {X = E} (x ∷ (y ∷ r))) n ∙ last_read (y ∷ r)

pub last_push : {E : Type 0} (xs : List E) (x : E) → last_of (xs ++ (x ∷ [])) ≡ Some x
last_push [] x = refl
last_push (y ∷ []) x = refl
last_push (y ∷ (z ∷ r)) x = last_push (z ∷ r) x
