-- What a list of fixed room holds. Assumes nothing.
--     items v     the list that v stands for, whatever its length field says
--     most n      how many items a list of n places can hold
--     last_of xs  the last item of a list, where it has one
--     Pushed v x w r   pushing x to v leaves w: x stands behind the others, or there was no place and nothing changed
use Rattle.std.specs.Prelude.{◌≡◌, ℕ, ◌<◌, ◌≤◌, min, List, [], ◌∷◌, ◌++◌, length, take, Some, None, Ok, Err, Option, Result}
use Rattle.fixed.specs.declared.array_vec.ArrayVec.{ArrayVec}

abbrev pub items : {T : Type 0} {N : ℕ} → ArrayVec T N → List T
items v = take v.len v.places

abbrev pub most : ℕ → ℕ
most n = min n 255

abbrev pub last_of : {E : Type 0} → List E → Option E
last_of [] = None
last_of (x ∷ []) = Some x
last_of (x ∷ (y ∷ r)) = last_of (y ∷ r)

abbrev pub Pushed : {T : Type 0} {N : ℕ} → ArrayVec T N → T → ArrayVec T N → Result (Unit {0}) T → Type 0
Pushed {N = N} before item after (Ok _) = (length (items before) < most N) × (items after ≡ items before ++ (item ∷ []))
Pushed {N = N} before item after (Err back) = (most N ≤ length (items before)) × (back ≡ item) × (after ≡ before)
