-- What is asked of the lists of a transition. Assumes nothing.
--     Spread h vs           each two different states of the list are orthogonal
--     Restricts h u vs      the list has only states below u, pairwise orthogonal
--     Covers h E vs         no other state of the set E is orthogonal to all of the list
--     Determines h u vs     the list has only basic states below u, pairwise orthogonal, and no other such state is orthogonal to all
--     Says h t x            x is transition t of the hierarchy
use Rattle.std.specs.Prelude.{◌≡◌, ℕ, ◌<◌, false, ◌≢◌, List}
use Rattle.fixed.specs.Items.{items}
use Rattle.chart.specs.Ids.{StateId}
use Rattle.chart.specs.declared.drawing.Transition.{Transition}
use Rattle.hierarchy.specs.Hierarchies.{Set, ◌∈◌, these, Hierarchy, Basic, Below, Orthogonal}

abbrev pub Spread : Hierarchy → List StateId → Type 0
Spread h vs = (v w : ℕ) → v ∈ these vs → w ∈ these vs → v ≢ w → Orthogonal h v w

abbrev pub Restricts : Hierarchy → ℕ → List StateId → Type 0
Restricts h u vs = ((v : ℕ) → v ∈ these vs → Below h v u) × Spread h vs

abbrev pub Covers : Hierarchy → Set → List StateId → Type 0
Covers h ends vs = (v : ℕ) → v ∈ ends → these vs v ≡ false → ((w : ℕ) → w ∈ these vs → Orthogonal h w v) → ⊥

abbrev pub End : Hierarchy → ℕ → ℕ → Type 0
End h u v = Basic h v × Below h v u

abbrev pub Determines : Hierarchy → ℕ → List StateId → Type 0
Determines h u vs = ((v : ℕ) → v ∈ these vs → End h u v) × (Spread h vs × ((v : ℕ) → End h u v → these vs v ≡ false → ((w : ℕ) → w ∈ these vs → Orthogonal h w v) → ⊥))

pub record Says (h : Hierarchy) (t : ℕ) (x : Transition) : Type 0 where
  pub known : t < h.transitions
  pub source : h.source t ≡ x.source.0
  pub restriction : h.restriction t ≡ items x.source_restriction
  pub target : h.target t ≡ x.target.0
  pub determinator : h.determinator t ≡ items x.target_determinator
