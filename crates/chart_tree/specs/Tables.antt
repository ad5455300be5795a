-- Tables of sets. Assumes nothing.
--     set_at t i      the set in place i of the table t: past its end there is none
use Rattle.std.specs.Prelude.{ℕ, false, Some, None, Option}
use Rattle.std.specs.List.{slice_get}
use Rattle.set64.specs.Sets.{has}
use Rattle.set64.specs.declared.Set64.{Set64}
use Rattle.hierarchy.specs.Hierarchies.{Set}
use Rattle.chart_tree.specs.declared.table.Table.{Table}

abbrev pub held : Option Set64 → Set
held None v = false
held (Some s) v = has s v

abbrev pub set_at : {N : ℕ} → Table N → ℕ → Set
set_at t i = held (slice_get t.sets i)
