-- What the tables hold while they are worked out. Assumes nothing.
--     Members h t         the set in place a has the states of automaton a
--     Stage h k r         the automata from k on are gathered: r has what lies in and below them
--     Sides h k t         the sets in the places below k have the states orthogonal to those of these automata
use Rattle.std.specs.Prelude.{◌≡◌, ℕ, ◌<◌, ◌≤◌, false, ◌⊎◌, Decides}
use Rattle.set64.specs.Sets.{has}
use Rattle.hierarchy.specs.Hierarchies.{Hierarchy, Under, Lies, Orthogonal}
use Rattle.chart_tree.specs.Tables.{set_at}
use Rattle.chart_tree.specs.declared.table.Table.{Table}
use Rattle.chart_tree.specs.declared.regions.Regions.{Regions}

pub record Members (h : Hierarchy) (t : Table 24) : Type 0 where
  pub few : h.states ≤ 64
  pub each : (a v : ℕ) → a < 24 → Decides (set_at t a v) ((v < h.states) × (h.home v ≡ a))

pub record Stage (h : Hierarchy) (k : ℕ) (r : Regions) : Type 0 where
  pub few_automata : h.automata ≤ 24
  pub few_states : h.states ≤ 64
  pub within : (a v : ℕ) → a < h.automata → Decides (set_at r.within a v)
      ((h.home v ≡ a) ⊎ ((b : ℕ) × (s : ℕ) × (k ≤ b) × Under h b s × (h.home s ≡ a) × Lies h v b))
  pub below : (u v : ℕ) → Decides (set_at r.below u v) ((b : ℕ) × (k ≤ b) × Under h b u × Lies h v b)
  pub composite : (u : ℕ) → Decides (has r.composite u) ((b : ℕ) × (k ≤ b) × Under h b u)

pub record Sides (h : Hierarchy) (k : ℕ) (t : Table 24) : Type 0 where
  pub done : (x v w : ℕ) → x < k → h.home v ≡ x → Decides (set_at t x w) (Orthogonal h v w)
  pub blank : (x w : ℕ) → k ≤ x → set_at t x w ≡ false
