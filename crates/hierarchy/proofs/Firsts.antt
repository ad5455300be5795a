-- The first fault of several, and the fault of one rule after another. Assumes nothing.
use Rattle.std.proofs.Common.{◌≡◌, ℕ, zero, suc, ◌<◌, Bool, true, false, cond, ◌⊎◌, ◌↔◌, Some, None, Ok, Err, Decides, Option, sym, refl, ap, subst, inl, inr, arith}
use Rattle.std.proofs.lemmas.Bool.{cases_eq, both_ways}
use Rattle.hierarchy.specs.Checks.{or_else, first_of, unless_broken}
use Rattle.hierarchy.proofs.Tree.{not_some}

module _ {F : Type 0} where
  never : {C : Type 0} (f : F) → Some f ≡ None → C
  never f e = absurd (not_some (Some f) f e refl)

  pub or_none : (o p : Option F) → (or_else o p ≡ None) ↔ ((o ≡ None) × (p ≡ None))
  or_none None p = ((λ e. (refl, e)), (λ r. r.1))
  or_none (Some f) p = ((λ e. never f e), (λ r. never f r.0))

  pub or_some : (o p : Option F) (f : F) → (or_else o p ≡ Some f) ↔ ((o ≡ Some f) ⊎ ((o ≡ None) × (p ≡ Some f)))
  or_some None p f = ((λ e. inr (refl, e)), (λ r. elim r [ inl e ↦ never f (sym e) | inr q ↦ q.1 ]))
  or_some (Some g) p f = ((λ e. inl e), (λ r. elim r [ inl e ↦ e | inr q ↦ never g q.0 ]))

  pub first_none : (n : ℕ) (g : ℕ → Option F) → (first_of n g ≡ None) ↔ ((k : ℕ) → k < n → g k ≡ None)
  first_none zero g = ((λ _ k lt. absurd (omega arith)), (λ _. refl))
  first_none (suc n) g =
      let before = first_none n g in
      let both = or_none (first_of n g) (g n) in (
        (λ e k lt. let r = both.0 e in elim (cases_eq k n) [ inl same ↦ subst (λ z. g z ≡ None) (sym same) r.1 | inr ne ↦ before.0 r.0 k (omega arith) ]),
        (λ each. both.1 (before.1 (λ k lt. each k (omega arith)), each n (omega arith))),
      )

  -- f is found at k, and none before
  abbrev pub FirstAt : ℕ → (ℕ → Option F) → F → ℕ → Type 0
  FirstAt n g f k = (k < n) × (g k ≡ Some f) × ((j : ℕ) → j < k → g j ≡ None)

  pub first_some : (n : ℕ) (g : ℕ → Option F) (f : F) → (first_of n g ≡ Some f) ↔ ((k : ℕ) × FirstAt n g f k)
  first_some zero g f = ((λ e. never f (sym e)), (λ r. absurd (omega (arith, r.1.0))))
  first_some (suc n) g f =
      let before = first_some n g f in
      let both = or_some (first_of n g) (g n) f in (
        (λ e.
            elim (both.0 e) [
              | inl x ↦ let r = before.0 x in (r.0, (omega (arith, r.1.0), r.1.1, r.1.2))
              | inr x ↦ (n, (omega arith, x.1, (first_none n g).0 x.0))
            ]),
        (λ r.
            elim (cases_eq r.0 n) [
              | inl same ↦
                  both.1 (inr ((first_none n g).1 (λ k lt. r.1.2 k (omega arith)), subst (λ z. g z ≡ Some f) same r.1.1))
              | inr ne ↦ both.1 (inl (before.1 (r.0, (omega (arith, r.1.0), r.1.1, r.1.2))))
            ]),
      )

  -- a rule's fault, or else that of the rest
  pub rule_none : {A : Type 0} (b : Bool) (rest : Option F) (f : F) → Decides b A → (cond b rest (Some f) ≡ None) ↔ (A × (rest ≡ None))
  rule_none true rest f d = ((λ e. (d.0 refl, e)), (λ r. r.1))
  rule_none false rest f d = ((λ e. never f e), (λ r. absurd (both_ways false refl (d.1 r.0))))

  pub rule_some : {A : Type 0} (b : Bool) (rest : Option F) (f g : F) → Decides b A → (cond b rest (Some f) ≡ Some g) ↔ (((A → ⊥) × (f ≡ g)) ⊎ (A × (rest ≡ Some g)))
  rule_some true rest f g d = ((λ e. inr (d.0 refl, e)), (λ r. elim r [ inl x ↦ absurd (x.0 (d.0 refl)) | inr x ↦ x.1 ]))
  rule_some false rest f g d = (
    (λ e. inl ((λ a. both_ways false refl (d.1 a)), cc)),
    (λ r. elim r [ inl x ↦ ap (λ z. Some z) x.1 | inr x ↦ absurd (both_ways false refl (d.1 x.0)) ]),
  )

  pub none_some : (f : F) {C : Type 0} → None ≡ Some f → C
  none_some f e = never f (sym e)

  -- what an answer says of the fault that it tells of
  pub kept : {A : Type 0} (a b : A) (o : Option F) → Ok b ≡ unless_broken a o → o ≡ None
  kept a b None e = refl
  kept a b (Some f) e = cc

  pub broken : {A : Type 0} (a : A) (f : F) (o : Option F) → Err f ≡ unless_broken a o → o ≡ Some f
  broken a f None e = cc
  broken a f (Some g) e = cc
