-- What an outline holds by its type, taken out of the type: each fact is decided, so none can fail. Assumes nothing.
use Rattle.std.proofs.Common.{ℕ, Bool, Decides, inl, inr, arith}
use mathlib.Core.HLevel.{⊥_prop}
use Rattle.std.proofs.Math.Logic.{∥∥₁_elim, ∥∥₁_prop}
use Rattle.std.proofs.lemmas.Bool.{both_ways, cases_Bool, cases_lt}
use Rattle.hierarchy.specs.Hierarchies.{Hierarchy, Under, Proper}
use Rattle.hierarchy.specs.Rules.{Rooted}
use Rattle.hierarchy.proofs.Tells.{decided_by, tells_below, tells_orthogonal}
use Rattle.hierarchy.proofs.Tree.{Decided, least}
use Rattle.hierarchy.proofs.Landings.{decide_under}
use Rattle.chart_tree.specs.Outlines.{drawn}
use Rattle.chart_tree.specs.Trees.{Outlines}
use Rattle.chart_tree.specs.declared.outline.Outline.{Outline}
use Rattle.chart_tree.specs.declared.tree.Tree.{Tree}
use Rattle.chart_tree.proofs.Drawn.{proper}

pub never : {A : Type 0} → ∥ A ∥₁ → (A → ⊥) → ⊥
never t no_such = ∥∥₁_elim t ⊥_prop no_such

-- a test that decides a fact, which is decided already
tells_out : {P : Type 0} (b : Bool) → Decided P → ∥ Decides b P ∥₁ → Decides b P
tells_out b decided t = (
  (λ on. elim decided [ inl p ↦ p | inr none ↦ absurd (never t (λ d. none (d.0 on))) ]),
  (λ p. elim (cases_Bool b) [ inl on ↦ on | inr off ↦ absurd (never t (λ d. both_ways b off (d.1 p))) ]),
)

through : {A B : Type 0} → (A → B) → ∥ A ∥₁ → ∥ B ∥₁
through f t = ∥∥₁_elim t ∥∥₁_prop (λ a. ∣ f a ∣₁)

-- whether some automaton stands under a state
decide_composite : (h : Hierarchy) → Proper h → (u : ℕ) → Decided ((b : ℕ) × Under h b u)
decide_composite h proper u =
    elim (least (λ b. Under h b u) (λ b. decide_under h b u) h.automata) [ inl r ↦ inl (r.0, r.2) | inr none ↦ inr (λ x. none x.0 (proper.parent x.0 u x.1) x.1) ]

outlines_of : (h : Hierarchy) → Proper h → Rooted h → (t : Tree) → ∥ Outlines h t ∥₁ → Outlines h t
outlines_of h proper rooted t held =
    record {
      few_states = elim (cases_lt 64 h.states) [ inl many ↦ absurd (never held (λ o. omega (arith, o.few_states))) | inr few ↦ few ];
      below = λ u v. tells_out _ (decided_by _ (tells_below h rooted v u)) (through (λ o. o.below u v) held);
      beside = λ v w lt. tells_out _ (decided_by _ (tells_orthogonal h proper rooted v w)) (through (λ o. o.beside v w lt) held);
      composite = λ u. tells_out _ (decide_composite h proper u) (through (λ o. o.composite u) held);
    }

pub outlined : (o : Outline) → Rooted (drawn o.drawing) → Outlines (drawn o.drawing) o.tree
outlined o rooted = outlines_of (drawn o.drawing) (proper o.drawing) rooted o.tree (through (λ f. f rooted) o.outlined)
