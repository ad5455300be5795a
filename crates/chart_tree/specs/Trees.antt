-- A tree in tables, against the relations of its hierarchy. Assumes nothing.
--     tree_below t u      the states that the tree t has below state u
--     tree_beside t a     the states that it has orthogonal to those of automaton a
--     tree_composite t    the states that it has as not basic
--     Outlines h t        these are just the states that are so in the hierarchy h
use Rattle.std.specs.Prelude.{ℕ, ◌<◌, ◌≤◌, Decides}
use Rattle.set64.specs.Sets.{has}
use Rattle.hierarchy.specs.Hierarchies.{Set, Hierarchy, Under, Below, Orthogonal}
use Rattle.chart_tree.specs.Tables.{set_at}
use Rattle.chart_tree.specs.declared.tree.Tree.{Tree}

abbrev pub tree_below : Tree → ℕ → Set
tree_below t u = set_at t.below u

abbrev pub tree_beside : Tree → ℕ → Set
tree_beside t a = set_at t.beside a

abbrev pub tree_composite : Tree → Set
tree_composite t = has t.composite

pub record Outlines (h : Hierarchy) (t : Tree) : Type 0 where
  pub few_states : h.states ≤ 64
  pub below : (u v : ℕ) → Decides (tree_below t u v) (Below h v u)
  pub beside : (v w : ℕ) → h.home v < h.automata → Decides (tree_beside t (h.home v) w) (Orthogonal h v w)
  pub composite : (u : ℕ) → Decides (tree_composite t u) ((b : ℕ) × Under h b u)
