-- The rules on a chart, and which of them is the first that is broken. Assumes nothing.
--     Placed h a            automaton 0 stands under nothing, a later one under a state of a lower-numbered one
--     Starts h a            the initial state of automaton a lies in it
--     Rooted h              what the rules on automata make of them: a tree, with each initial state in its place
--     Joins h t             source and target of transition t lie in one automaton
--     WellFormed h t        its restriction has only states below its source, pairwise orthogonal
--     Full h t              its determinator has only basic states below its target, pairwise orthogonal, and no other basic
--                           state below the target is orthogonal to all of them
--     Sound h               every rule is kept
--     FirstBroken h f       f is the first rule that is broken, and what it names: each automaton in turn by its place and
--                           then by its initial state; then each transition by its ends, its restriction, its determinator
use Rattle.std.specs.Prelude.{◌≡◌, ℕ, ◌<◌, false, ◌≢◌, ◌⊎◌, None}
use Rattle.chart.specs.Kinds.{automaton_no}
use Rattle.hierarchy.specs.Hierarchies.{◌∈◌, these, Hierarchy, Under, Basic, Below, Orthogonal}
use Rattle.hierarchy.specs.Faults.{transition_no}
use Rattle.hierarchy.specs.declared.fault.ChartFault.{ChartFault}
use Rattle.hierarchy.specs.declared.fault.ChartFault.TheVariants.{Misplaced, StrayInitial, SplitEnds, IllFormed, NotFull}

abbrev pub Placed : Hierarchy → ℕ → Type 0
Placed h a = ((a ≡ 0) × (0 < h.automata) × (h.parent a ≡ None)) ⊎ ((0 < a) × ((p : ℕ) × Under h a p × (h.home p < a)))

abbrev pub Starts : Hierarchy → ℕ → Type 0
Starts h a = h.home (h.initial a) ≡ a

pub record Rooted (h : Hierarchy) : Type 0 where
  pub some_automaton : 0 < h.automata
  pub top : h.parent 0 ≡ None
  pub inner : (a : ℕ) → 0 < a → a < h.automata → (p : ℕ) × Under h a p
  pub under : (a p : ℕ) → Under h a p → (a < h.automata) × (p < h.states) × (h.home p < a)
  pub initial : (a : ℕ) → a < h.automata → (h.initial a < h.states) × (h.home (h.initial a) ≡ a)

pub record Joins (h : Hierarchy) (t : ℕ) : Type 0 where
  pub source : h.source t < h.states
  pub target : h.target t < h.states
  pub automaton : h.home (h.source t) < h.automata
  pub one : h.home (h.source t) ≡ h.home (h.target t)

pub record WellFormed (h : Hierarchy) (t : ℕ) : Type 0 where
  pub only : (v : ℕ) → v ∈ these (h.restriction t) → (v < h.states) × Below h v (h.source t)
  pub pairwise : (v w : ℕ) → v ∈ these (h.restriction t) → w ∈ these (h.restriction t) → v ≢ w → Orthogonal h v w

pub record Full (h : Hierarchy) (t : ℕ) : Type 0 where
  pub only : (v : ℕ) → v ∈ these (h.determinator t) → (v < h.states) × Basic h v × Below h v (h.target t)
  pub pairwise : (v w : ℕ) → v ∈ these (h.determinator t) → w ∈ these (h.determinator t) → v ≢ w → Orthogonal h v w
  pub whole : (v : ℕ) → v < h.states → Basic h v → Below h v (h.target t) → these (h.determinator t) v ≡ false → ((w : ℕ) → w ∈ these (h.determinator t) → Orthogonal h v w) → ⊥

pub record Joined (h : Hierarchy) (t : ℕ) : Type 0 where
  pub joins : Joins h t
  pub formed : WellFormed h t
  pub full : Full h t

pub record Sound (h : Hierarchy) : Type 0 where
  pub rooted : Rooted h
  pub joined : (t : ℕ) → t < h.transitions → Joined h t

-- the automata before a break no rule
abbrev pub RightAutomata : Hierarchy → ℕ → Type 0
RightAutomata h a = (b : ℕ) → b < a → Placed h b × Starts h b

-- the automata break no rule, nor do the transitions before t
abbrev pub RightTransitions : Hierarchy → ℕ → Type 0
RightTransitions h t = Rooted h × ((u : ℕ) → u < t → Joined h u)

pub data FirstBroken (h : Hierarchy) : ChartFault → Type 0 where
  misplaced : (a : ℕ) → RightAutomata h a → (a ≡ 0) ⊎ (a < h.automata) → (Placed h a → ⊥) → FirstBroken h (Misplaced (automaton_no a))
  stray : (a : ℕ) → RightAutomata h a → Placed h a → a < h.automata → (Starts h a → ⊥) → FirstBroken h (StrayInitial (automaton_no a))
  split : (t : ℕ) → t < h.transitions → RightTransitions h t → (Joins h t → ⊥) → FirstBroken h (SplitEnds (transition_no t))
  ill_formed : (t : ℕ) → t < h.transitions → RightTransitions h t → Joins h t → (WellFormed h t → ⊥) → FirstBroken h (IllFormed (transition_no t))
  not_full : (t : ℕ) → t < h.transitions → RightTransitions h t → Joins h t → WellFormed h t → (Full h t → ⊥) → FirstBroken h (NotFull (transition_no t))
