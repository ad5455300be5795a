-- Lists of states as sets, state by state. Assumes nothing.
use Rattle.std.proofs.Common.{◌≡◌, ℕ, zero, suc, ◌<◌, Bool, true, false, MatchBool, Decides, Iter, eqb, ◌⊎◌, ◌↔◌, List, [], ◌∷◌, ◌++◌, length, get_or, sym, refl, subst, inl, inr, arith}
use Rattle.std.specs.List.{HoldsAt, AllWithin}
use Rattle.std.specs.Iterator.{AlwaysYields}
use Rattle.std.proofs.lemmas.Fn.{slice_gives, fronts}
use Rattle.std.proofs.lemmas.Bool.{both_ways, cases_Bool, or_cases, or_left, or_right, eqb-true, eq-eqb}
use Rattle.chart.specs.Ids.{StateId}
use Rattle.chart.specs.Kinds.{state_no}
use Rattle.hierarchy.specs.Hierarchies.{◌∈◌, these}

pub these_push : (xs : List StateId) (x : StateId) (v : ℕ) → (v ∈ these (xs ++ (x ∷ []))) ↔ ((v ∈ these xs) ⊎ (v ≡ x.0))
these_push [] x v = (
  (λ t. elim (or_cases (eqb v x.0) false t) [ inl e ↦ inr (eqb-true v x.0 e) | inr f ↦ inl f ]),
  (λ s. elim s [ inl f ↦ absurd (both_ways false refl f) | inr e ↦ or_left (eqb v x.0) false (eq-eqb v x.0 e) ]),
)
these_push (y ∷ xs) x v =
    let more = these_push xs x v in (
      (λ t. elim (or_cases (eqb v y.0) (these (xs ++ (x ∷ [])) v) t) [
        | inl e ↦ inl (or_left (eqb v y.0) (these xs v) e)
        | inr r ↦ elim (more.0 r) [ inl m ↦ inl (or_right (eqb v y.0) (these xs v) m) | inr e ↦ inr e ]
      ]),
      (λ s. elim s [
        | inl m ↦ elim (or_cases (eqb v y.0) (these xs v) m) [ inl e ↦ or_left (eqb v y.0) _ e | inr r ↦ or_right (eqb v y.0) _ (more.1 (inl r)) ]
        | inr e ↦ or_right (eqb v y.0) _ (more.1 (inr e))
      ]),
    )

-- the state in a place of a list is a state of the list
pub these_at : (xs : List StateId) (i : ℕ) (d : StateId) → i < length xs → (get_or xs i d).0 ∈ these xs
these_at [] i d lt = absurd (omega arith)
these_at (x ∷ xs) zero d lt = or_left (eqb x.0 x.0) (these xs x.0) (eq-eqb x.0 x.0 refl)
these_at (x ∷ xs) (suc i) d lt = or_right (eqb (get_or xs i d).0 x.0) (these xs (get_or xs i d).0) (these_at xs i d (omega arith))

-- a slice's iterator gives its items
pub yields_slice : {A : Type 0} (s : Iter A) (xs : List A) → s.rest.now ≡ xs → AlwaysYields fronts (λ y. y.now) s xs
yields_slice s xs e = subst (λ ys. AlwaysYields fronts (λ y. y.now) s ys) e (slice_gives s)

these_place : (xs : List StateId) (v : ℕ) → v ∈ these xs → (k : ℕ) × (k < length xs) × ((d : StateId) → (get_or xs k d).0 ≡ v)
these_place [] v m = absurd (both_ways false refl m)
these_place (x ∷ xs) v m =
    elim (or_cases (eqb v x.0) (these xs v) m) [
      | inl e ↦ (0, omega arith, λ d. sym (eqb-true v x.0 e))
      | inr r ↦ let p = these_place xs v r in (suc p.0, omega (arith, p.1), p.2)
    ]

-- whether all states of a list are so, by an answer on each
pub all_are : (P : ℕ → Type 0) (r : Bool) (xs : List StateId) → MatchBool r (AllWithin (λ (s : StateId). P s.0) xs 0 (length xs)) ((k : ℕ) × (k < length xs) × HoldsAt (λ (s : StateId). P s.0 → ⊥) xs k)
    → Decides r ((v : ℕ) → v ∈ these xs → P v)
all_are P true xs each =
    let d : StateId = state_no 0 in
    ((λ _ v m. let p = these_place xs v m in subst P (p.2 d) (each p.0 d (omega arith) p.1)), (λ _. refl))
all_are P false xs one =
    let d : StateId = state_no 0 in
    ((λ e. absurd (both_ways false refl e)), (λ all. absurd (one.2 d (all _ (these_at xs one.0 d one.1)))))

-- not in a list
pub not_these : (xs : List StateId) (v : ℕ) → (v ∈ these xs → ⊥) → these xs v ≡ false
not_these xs v no_such = elim (cases_Bool (these xs v)) [ inl t ↦ absurd (no_such t) | inr f ↦ f ]
