-- `list::are_orthogonal`: of the others, none is left that is not orthogonal to the state at hand. Assumes nothing.
use Rattle.std.proofs.Common.{◌≡◌, ℕ, true, false, ◌≢◌, List, Decides, sym, refl, rules}
use Rattle.std.proofs.lemmas.Bool.{both_ways}
use Rattle.std.proofs.lemmas.Bool.Decides.{Decides-like}
use Rattle.std.proofs.lemmas.Iterator.{cases_from_all, YieldsList-from_slice}
use Rattle.set64.specs.Sets.{has}
use Rattle.set64.specs.declared.Set64.{Set64}
use Rattle.chart.specs.Ids.{StateId}
use Rattle.hierarchy.specs.Hierarchies.{◌∈◌, these, Hierarchy, Orthogonal}
use Rattle.chart_tree.specs.Outlines.{drawn}
use Rattle.chart_rules.proofs.Lists.{all_are}
use Rattle.chart_rules.proofs.list.are_orthogonal.Goals as goal

module _ (h : Hierarchy) (xs : List StateId) where
  -- all others of the list are orthogonal to x
  abbrev Apart : ℕ → Type 0
  Apart x = (w : ℕ) → w ∈ these xs → w ≢ x → Orthogonal h x w

abbrev ApartIn : Hierarchy → Set64 → ℕ → Type 0
ApartIn h set x = (w : ℕ) → has set w ≡ true → w ≢ x → Orthogonal h x w

pub returns : goal.returns
returns c rooted small =
    let h = drawn c.args.outline.now.drawing in
    let xs = c.args.states.now in
    Decides-like _ (λ each v w m n ne. each v m w n (λ e. ne (sym e))) (λ spread v m w n ne. spread v w m n (λ e. ne (sym e)))
    (all_are (Apart h xs) _ xs
    (cases_from_all _ _ _ (λ (s : StateId). Apart h xs s.0) (λ (s : StateId). Apart h xs s.0 → ⊥) c.all.ensures.ran (YieldsList-from_slice xs cc)
    (λ x q k.
    let told : Decides true (ApartIn h c.set_of-all.result x.now.0) = search rules in
    (search rules, λ w m ne. told.0 refl w ((c.set_of-all.ensures w).1 (m, small w m)) ne))
    (λ x q k.
    let told : Decides false (ApartIn h c.set_of-all.result x.now.0) = search rules in
    λ apart. both_ways false refl (told.1 (λ w m ne. apart w ((c.set_of-all.ensures w).0 m).0 ne)))))
