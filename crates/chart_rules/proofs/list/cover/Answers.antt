-- `list::cover`: what is left is orthogonal to the states that were passed. Assumes nothing.
use Rattle.std.proofs.Common.{◌≡◌, ℕ, ◌^◌, ◌<◌, Bool, true, false, not, ◌&&◌, List, [], ◌∷◌, ◌++◌, Decides, sym, refl, subst, inl, inr, arith, rules}
use Rattle.std.proofs.lemmas.Bool.{both_ways, cases_Bool}
use Rattle.std.proofs.lemmas.Bool.Decides.{Decides-at, Decides-like, Decides-and, Decides-not}
use Rattle.std.proofs.lemmas.Fn.{fold_over, fronts}
use Rattle.set64.specs.Sets.{has}
use Rattle.set64.specs.declared.Set64.{Set64}
use Rattle.set64.proofs.Alike.{below_64}
use Rattle.chart.specs.Ids.{StateId}
use Rattle.hierarchy.specs.Hierarchies.{◌∈◌, these, Hierarchy, Orthogonal}
use Rattle.chart_tree.specs.Outlines.{drawn}
use Rattle.chart_rules.specs.Lists.{Covers}
use Rattle.chart_rules.proofs.Lists.{these_push, not_these, yields_slice}
use Rattle.chart_rules.proofs.list.cover.Goals as goal

module _ (h : Hierarchy) (start : Set64) where
  -- of `start`, the set has the states to which all of the list are orthogonal
  abbrev Left : List StateId → Set64 → Type 0
  Left xs left = (v : ℕ) → Decides (has left v) ((has start v ≡ true) × ((w : ℕ) → w ∈ these xs → Orthogonal h w v))

  all_left : Left [] start
  all_left v = ((λ t. (t, λ w m. absurd (both_ways false refl m))), λ x. x.0)

  narrowed : (x : ℕ) (old beside new : Set64) → ((v : ℕ) → Decides (has beside v) (Orthogonal h x v)) → ((v : ℕ) → has new v ≡ (has old v && has beside v))
      → (v : ℕ) → Decides (has new v) ((has old v ≡ true) × Orthogonal h x v)
  narrowed x old beside new is-beside is v = Decides-at _ _ (is v) (Decides-and _ _ ((λ t. t), (λ t. t)) (is-beside v))

  one_more : (xs : List StateId) (x : StateId) (old new : Set64) → Left xs old → ((v : ℕ) → Decides (has new v) ((has old v ≡ true) × Orthogonal h x.0 v)) → Left (xs ++ (x ∷ [])) new
  one_more xs x old new inv is v =
      let joined : Decides (has new v) (((has start v ≡ true) × ((w : ℕ) → w ∈ these xs → Orthogonal h w v)) × Orthogonal h x.0 v) =
      ((λ t. let y = (is v).0 t in ((inv v).0 y.0, y.1)), (λ y. (is v).1 ((inv v).1 y.0, y.1))) in
      Decides-like _
      (λ y. (y.0.0, λ w m. elim ((these_push xs x w).0 m) [ inl before ↦ y.0.1 w before | inr e ↦ subst (λ z. Orthogonal h z v) (sym e) y.1 ]))
      (λ y. ((y.0, λ w m. y.1 w ((these_push xs x w).1 (inl m))), y.1 x.0 ((these_push xs x x.0).1 (inr refl))))
      joined

-- what is left at the end, by the ends and the list
covered : (h : Hierarchy) (xs : List StateId) (ends listed start left : Set64) → ends.word < 2 ^ 64 → ((v : ℕ) → Decides (has listed v) ((v ∈ these xs) × (v < 64)))
    → ((v : ℕ) → has start v ≡ (has ends v && not (has listed v))) → Left h start xs left → (r : Bool) → Decides r ((v : ℕ) → has left v ≡ false) → Decides r (Covers h (has ends) xs)
covered h xs ends listed start left fits is-listed is-start is-left r empty =
    let at : (v : ℕ) → Decides (has start v) ((has ends v ≡ true) × ((v ∈ these xs) × (v < 64) → ⊥)) = λ v. Decides-at _ _ (is-start v) (Decides-and _ _ ((λ t. t), (λ t. t)) (Decides-not _ (is-listed v))) in (
      (λ t v on off all. both_ways _ (empty.0 t v) ((is-left v).1 ((at v).1 (on, λ y. both_ways _ off y.0), all))),
      λ covers. empty.1 (λ v. elim (cases_Bool (has left v)) [
        | inl on ↦ let x = (is-left v).0 on in let y = (at v).0 x.0 in absurd (covers v y.0 (not_these xs v (λ m. y.1 (m, below_64 ends v fits y.0))) x.1)
        | inr off ↦ off
      ]),
    )

pub returns : goal.returns
returns c rooted =
    let h = drawn c.args.outline.now.drawing in
    let xs = c.args.states.now in
    let left =
    fold_over fronts (λ y. y.now) _ (Left h c.without.result) _
    (λ ys a x b q inv k.
    let is : (v : ℕ) → Decides (has b v) ((has a v ≡ true) × Orthogonal h x.now.0 v) = let z = narrowed h c.without.result x.now.0 a in search (rules, z) in
    (one_more h c.without.result ys x.now a b inv is, search rules))
    c.iter.result xs _ _ (yields_slice c.iter.result xs cc) (all_left h c.without.result) c.fold.ensures.ran in
    covered h xs c.args.ends c.set_of.result c.without.result _ (omega arith) c.set_of.ensures c.without.ensures left _ c.is_empty.ensures
