-- `automaton::is_placed`: the first by its parent, a later one by where it stands. Assumes nothing.
use Rattle.std.proofs.Common.{◌≡◌, ℕ, ◌<◌, Bool, false, ltb, None, Some, Option, MatchOption, Decides, ap, inl, inr, arith, rules}
use Rattle.std.proofs.lemmas.Bool.{both_ways}
use Rattle.std.proofs.lemmas.Bool.Decides.{Decides-at, Decides-like, Decides-ltb}
use Rattle.hierarchy.specs.Hierarchies.{Hierarchy, Under, Proper}
use Rattle.hierarchy.specs.Rules.{Placed}
use Rattle.chart_tree.specs.Outlines.{drawn, StandGives}
use Rattle.chart_tree.specs.declared.outline.Stand.{Stand}
use Rattle.chart_tree.proofs.Drawn.{proper}
use Rattle.chart_rules.proofs.Somes.{some_weaker}
use Rattle.chart_rules.proofs.automaton.is_placed.Goals as goal

module _ (h : Hierarchy) (proper : Proper h) (a : ℕ) (pos : a ≡ 0 → ⊥) where
  under_lower : Placed h a → (p : ℕ) × Under h a p × (h.home p < a)
  under_lower p = elim p [ inl x ↦ absurd (pos x.0) | inr x ↦ x.1 ]

  later : (r : Bool) (o : Option Stand) → StandGives h a o → MatchOption o (r ≡ false) (λ (s : Stand). r ≡ ltb s.home.0 a) → Decides r (Placed h a)
  later r None far off = (
    (λ t. absurd (both_ways r off t)),
    λ p. let x = under_lower p in absurd (omega (arith, x.2, proper.parent a x.0 x.1, far x.0 x.1)),
  )
  later r (Some s) stands is =
      Decides-like r
      (λ lt. inr (omega (arith, pos), (s.state.0, stands.under, omega (arith, stands.home))))
      (λ p. let x = under_lower p in let u = x.1 in let w = stands.under in let same : x.0 ≡ s.state.0 = cc in omega (arith, x.2, ap h.home same, stands.home))
      (Decides-at _ _ is (Decides-ltb s.home.0 a))

pub returns : goal.returns
returns c =
    let d = c.args.drawing.now in
    let a = c.args.automaton.0 in
    later (drawn d) (proper d) a c.if-automaton-eq0.false _ c.stand_of.result c.stand_of.ensures
    (some_weaker _ (λ (s : Stand). c.is_some_and.result ≡ ltb s.home.0 a) c.stand_of.result c.is_some_and.ensures (λ x q. search rules))
