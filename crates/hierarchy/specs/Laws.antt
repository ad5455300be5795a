-- The laws of a sound chart's tree, and of the states that a transition enters. Assumes nothing.
--     TreeLaws h           below is a strict order, the states above a state form a chain, orthogonal states are apart
--     Enters h t v         transition t enters its target, the states of its determinator, and all states between
--     OneEntered h t a     of the states of automaton a, transition t enters exactly one
--     LandingLaw           of each automaton under a state that a transition enters, exactly one state is entered
use Rattle.std.specs.Prelude.{◌≡◌, ℕ, ◌<◌, ◌≢◌, ◌⊎◌}
use Rattle.hierarchy.specs.Hierarchies.{◌∈◌, these, Hierarchy, Under, Below, Orthogonal}
use Rattle.hierarchy.specs.Rules.{Rooted, Sound}

pub record TreeLaws (h : Hierarchy) : Type 0 where
  pub irreflexive : (v : ℕ) → Below h v v → ⊥
  pub transitive : (v w u : ℕ) → Below h v w → Below h w u → Below h v u
  pub chain : (v u w : ℕ) → Below h v u → Below h v w → (u ≡ w) ⊎ (Below h u w ⊎ Below h w u)
  pub symmetric : (v w : ℕ) → Orthogonal h v w → Orthogonal h w v
  pub different : (v w : ℕ) → Orthogonal h v w → v ≢ w
  pub apart : (v w : ℕ) → Orthogonal h v w → Below h v w → ⊥

abbrev pub TreeLaw : Type 0
TreeLaw = (h : Hierarchy) → Rooted h → TreeLaws h

abbrev pub Enters : Hierarchy → ℕ → ℕ → Type 0
Enters h t v = (v ≡ h.target t) ⊎ ((v ∈ these (h.determinator t)) ⊎ (Below h v (h.target t) × ((w : ℕ) × (w ∈ these (h.determinator t)) × Below h w v)))

abbrev pub OneEntered : Hierarchy → ℕ → ℕ → Type 0
OneEntered h t a = (s : ℕ) × ((h.home s ≡ a) × Enters h t s) × ((v : ℕ) → h.home v ≡ a → Enters h t v → v ≡ s)

abbrev pub LandingLaw : Type 0
LandingLaw = (h : Hierarchy) (t a p : ℕ) → Sound h → t < h.transitions → Under h a p → Enters h t p → OneEntered h t a
