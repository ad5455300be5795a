-- The hierarchy of a chart: automata that stand under states, states that lie in automata, transitions between states.
-- Assumes nothing.
--     Set, n ∈ s            a set of numbers, by its members
--     these vs              the set of the states of a list
--     Hierarchy             numbers below the counts are those of the chart; a number that is no state lies in no automaton of it
--     Under h a p           automaton a stands under state p
--     Basic h v             no automaton stands under state v
--     Below h v u           state v lies in an automaton under u, or in one under a state below u
--     AtOrBelow h v u       v is u, or below u
--     Lies h v a            state v lies in automaton a, or below one of its states
--     Orthogonal h v w      v and w lie in or below two different automata under one same state
--     Conflict h t u        two different transitions whose sources are equal, or one below the other
--     Proper h              the numbers of a chart, told from others: so of every plan's hierarchy
use Rattle.std.specs.Prelude.{◌≡◌, ℕ, ◌<◌, Bool, true, false, ◌||◌, ◌≢◌, ◌⊎◌, List, [], ◌∷◌, Some, Option, ◌==◌}
use Rattle.chart.specs.Ids.{StateId}

abbrev pub Set : Type 0
Set = ℕ → Bool

infix 40 ◌∈◌
abbrev pub ◌∈◌ : ℕ → Set → Type 0
n ∈ s = s n ≡ true

abbrev pub these : List StateId → Set
these [] n = false
these (x ∷ xs) n = n == x.0 || these xs n

-- `parent` of an automaton is the state that it stands under, where there is one; `home` of a state is the automaton that
-- it lies in; `initial` of an automaton is the state at which it is entered
pub record Hierarchy : Type 0 where
  pub automata : ℕ
  pub states : ℕ
  pub transitions : ℕ
  pub parent : ℕ → Option ℕ
  pub home : ℕ → ℕ
  pub initial : ℕ → ℕ
  pub source : ℕ → ℕ
  pub restriction : ℕ → List StateId
  pub target : ℕ → ℕ
  pub determinator : ℕ → List StateId

abbrev pub Under : Hierarchy → ℕ → ℕ → Type 0
Under h a p = h.parent a ≡ Some p

abbrev pub Basic : Hierarchy → ℕ → Type 0
Basic h v = (a : ℕ) → Under h a v → ⊥

pub data Below (h : Hierarchy) : ℕ → ℕ → Type 0 where
  inside : {v u : ℕ} → Under h (h.home v) u → Below h v u
  deeper : {v w u : ℕ} → Under h (h.home v) w → Below h w u → Below h v u

abbrev pub AtOrBelow : Hierarchy → ℕ → ℕ → Type 0
AtOrBelow h v u = (v ≡ u) ⊎ Below h v u

abbrev pub Lies : Hierarchy → ℕ → ℕ → Type 0
Lies h v a = (s : ℕ) × (h.home s ≡ a) × AtOrBelow h v s

pub record Orthogonal (h : Hierarchy) (v w : ℕ) : Type 0 where
  pub over : ℕ
  pub left : ℕ
  pub right : ℕ
  pub differ : left ≢ right
  pub left_under : Under h left over
  pub right_under : Under h right over
  pub left_holds : Lies h v left
  pub right_holds : Lies h w right

abbrev pub Conflict : Hierarchy → ℕ → ℕ → Type 0
Conflict h t u = (t ≢ u) × ((h.source t ≡ h.source u) ⊎ (Below h (h.source t) (h.source u) ⊎ Below h (h.source u) (h.source t)))

pub record Proper (h : Hierarchy) : Type 0 where
  pub parent : (a p : ℕ) → Under h a p → a < h.automata
  pub home : (v : ℕ) → h.home v < h.automata → v < h.states
