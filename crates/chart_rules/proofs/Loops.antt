-- A loop that looks for the first fault. Assumes nothing.
use Rattle.std.proofs.Common.{◌≡◌, ℕ, ◌+◌, ◌<◌, ◌≤◌, None, Ok, Err, Option, Result, sym, ap, ◌∙◌, inl, inr, arith}
use Rattle.std.proofs.lemmas.Bool.{cases_eq}
use Rattle.hierarchy.specs.Checks.{first_of, unless_broken}
use Rattle.hierarchy.proofs.Firsts.{first_none, first_some, kept, broken}

module _ {F : Type 0} (n : ℕ) (g : ℕ → Option F) (k : ℕ) (passed : first_of k g ≡ None) where
  abbrev pub Answer : Type 0
  Answer = Result (Unit {0}) F

  pub found : (f : F) → k < n → ◌≡◌ {A = Answer} (Err f) (unless_broken tt (g k)) → ◌≡◌ {A = Answer} (Err f) (unless_broken tt (first_of n g))
  found f lt e = ap (unless_broken tt) (sym ((first_some n g f).1 (k, (lt, broken tt f (g k) e, (first_none k g).0 passed))))

  pub passed_more : (u : Unit {0}) → ◌≡◌ {A = Answer} (Ok u) (unless_broken tt (g k)) → first_of (k + 1) g ≡ None
  passed_more u e =
      (first_none (k + 1) g).1
      (λ j lt. elim (cases_eq j k) [ inl same ↦ ap g same ∙ kept tt u (g k) e | inr ne ↦ (first_none k g).0 passed j (omega arith) ])

  pub none_left : n ≤ k → ◌≡◌ {A = Answer} (Ok tt) (unless_broken tt (first_of n g))
  none_left le = ap (unless_broken tt) (sym ((first_none n g).1 (λ j lt. (first_none k g).0 passed j (omega arith))))
