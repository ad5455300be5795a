-- `list::set_of`: one state more at each turn. Assumes nothing.
use Rattle.std.proofs.Common.{◌≡◌, ℕ, ◌<◌, false, ◌&&◌, ◌||◌, eqb, ltb, List, [], ◌∷◌, ◌++◌, Decides, refl, inl, inr, arith, rules}
use Rattle.std.proofs.lemmas.Bool.{both_ways}
use Rattle.std.proofs.lemmas.Bool.Decides.{Decides-like, Decides-at, Decides-or, Decides-and, Decides-eqb, Decides-ltb}
use Rattle.std.proofs.lemmas.Fn.{fold_over, fronts}
use Rattle.set64.specs.Sets.{has}
use Rattle.set64.specs.declared.Set64.{Set64}
use Rattle.chart.specs.Ids.{StateId}
use Rattle.hierarchy.specs.Hierarchies.{◌∈◌, these}
use Rattle.chart_rules.proofs.Lists.{these_push, yields_slice}
use Rattle.chart_rules.proofs.list.set_of.Goals as goal

-- the set has the states of the list
abbrev Gathered : List StateId → Set64 → Type 0
Gathered xs s = (v : ℕ) → Decides (has s v) ((v ∈ these xs) × (v < 64))

one_more : (xs : List StateId) (x : StateId) (old new : Set64) → Gathered xs old → ((v : ℕ) → has new v ≡ (has old v || (ltb x.0 64 && eqb v x.0))) → Gathered (xs ++ (x ∷ [])) new
one_more xs x old new inv is v =
    let more = these_push xs x v in
    Decides-like _
    (λ s. elim s [ inl y ↦ (more.1 (inl y.0), y.1) | inr y ↦ (more.1 (inr y.1), omega (arith, y.0, y.1)) ])
    (λ y. elim (more.0 y.0) [ inl m ↦ inl (m, y.1) | inr e ↦ inr (omega (arith, y.1, e), e) ])
    (Decides-at _ _ (is v) (Decides-or _ _ (inv v) (Decides-and _ _ (Decides-ltb x.0 64) (Decides-eqb v x.0))))

none : (s : Set64) → ((v : ℕ) → has s v ≡ false) → Gathered [] s
none s empty v = ((λ t. absurd (both_ways _ (empty v) t)), λ x. absurd (both_ways false refl x.0))

pub returns : goal.returns
returns c =
    fold_over fronts (λ y. y.now) _ Gathered _
    (λ ys a x b q inv k.
    let is : (v : ℕ) → has b v ≡ (has a v || (ltb x.now.0 64 && eqb v x.now.0)) = search rules in
    (one_more ys x.now a b inv is, search rules))
    c.iter.result c.args.states.now _ _ (yields_slice c.iter.result c.args.states.now cc) (none _ c.empty.ensures) c.fold.ensures.ran
