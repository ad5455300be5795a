-- The rules on a transition, by its ends and its lists. Assumes nothing.
use Rattle.std.proofs.Common.{◌≡◌, ℕ, ◌<◌, Bool, List, Decides, sym, ap, ◌∙◌, subst, arith}
use Rattle.std.proofs.lemmas.Bool.Decides.{Decides-like, same_from_decides}
use Rattle.fixed.specs.Items.{items}
use Rattle.chart.specs.declared.drawing.Transition.{Transition}
use Rattle.chart.specs.Ids.{StateId}
use Rattle.hierarchy.specs.Checks.{joins, well_formed, full}
use Rattle.hierarchy.specs.Hierarchies.{Hierarchy, Proper}
use Rattle.hierarchy.specs.Rules.{Rooted, Joins, WellFormed, Full}
use Rattle.hierarchy.proofs.Checks.{tells_joins, tells_well_formed, tells_full}
use Rattle.hierarchy.proofs.Tells.{below_is_state}
use Rattle.hierarchy.proofs.Tree.{orthogonal_symmetric}
use Rattle.chart_rules.specs.Lists.{Restricts, Determines, Says}

module _ (h : Hierarchy) (proper : Proper h) where
  module _ (t : ℕ) (x : Transition) (says : Says h t x) where
    joined_by : (r : Bool) → Decides r ((h.home x.source.0 < h.automata) × (h.home x.source.0 ≡ h.home x.target.0)) → Decides r (Joins h t)
    joined_by r d =
        let from = ap h.home says.source in
        let to = ap h.home says.target in
        Decides-like r
        (λ y. record { source = proper.home _ (omega (arith, y.0, from)); target = proper.home _ (omega (arith, y.0, y.1, to)); automaton = omega (arith, y.0, from); one = from ∙ y.1 ∙ sym to })
        (λ j. (omega (arith, j.automaton, from), sym from ∙ j.one ∙ to))
        d

    formed_by : (vs : List StateId) (r : Bool) → vs ≡ items x.source_restriction → Decides r (Restricts h x.source.0 vs) → Decides r (WellFormed h t)
    formed_by vs r same d =
        Decides-like r
        (λ y. record { only = λ v m. (below_is_state h proper v _ (y.0 v m), y.0 v m); pairwise = y.1 })
        (λ w. ((λ v m. (w.only v m).1), w.pairwise))
        (subst (λ z. Decides r (Restricts h z (h.restriction t))) (sym says.source) (subst (λ zs. Decides r (Restricts h x.source.0 zs)) (same ∙ sym says.restriction) d))

    full_by : (vs : List StateId) (r : Bool) → vs ≡ items x.target_determinator → Decides r (Determines h x.target.0 vs) → Decides r (Full h t)
    full_by vs r same d =
        Decides-like r
        (λ y. record {
          only = λ v m. let z = y.0 v m in (below_is_state h proper v _ z.1, z.0, z.1);
          pairwise = y.1.0;
          whole = λ v lt basic below off all. y.1.1 v (basic, below) off (λ w m. orthogonal_symmetric h v w (all w m));
        })
        (λ w. (
          (λ v m. let z = w.only v m in (z.1, z.2)),
          (w.pairwise, λ v end off all. w.whole v (below_is_state h proper v _ end.1) end.0 end.1 off (λ z m. orthogonal_symmetric h z v (all z m))),
        ))
        (subst (λ z. Decides r (Determines h z (h.determinator t))) (sym says.target) (subst (λ zs. Decides r (Determines h x.target.0 zs)) (same ∙ sym says.determinator) d))

    -- the code's answers are those of the calculation
    pub joins_is : (r : Bool) → Decides r ((h.home x.source.0 < h.automata) × (h.home x.source.0 ≡ h.home x.target.0)) → joins h t ≡ r
    joins_is r d = same_from_decides _ _ (tells_joins h proper t) (joined_by r d)

    pub formed_is : Rooted h → (vs : List StateId) (r : Bool) → vs ≡ items x.source_restriction → Decides r (Restricts h x.source.0 vs) → well_formed h t ≡ r
    formed_is rooted vs r same d = same_from_decides _ _ (tells_well_formed h proper rooted t) (formed_by vs r same d)

    pub full_is : Rooted h → (vs : List StateId) (r : Bool) → vs ≡ items x.target_determinator → Decides r (Determines h x.target.0 vs) → full h t ≡ r
    full_is rooted vs r same d = same_from_decides _ _ (tells_full h proper rooted t) (full_by vs r same d)
