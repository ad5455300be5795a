-- `regions::members`: each state that was passed is in its automaton's set. Assumes nothing.
use Rattle.std.proofs.Common.{◌≡◌, ℕ, ◌<◌, Decides}
use Rattle.chart_tree.specs.Outlines.{drawn}
use Rattle.chart_tree.specs.Tables.{set_at}
use Rattle.chart_tree.proofs.regions.members.Given as goal

abbrev pub invariant-loop-i : goal.invariant-loop-i
invariant-loop-i l = (a v : ℕ) → a < 24 → Decides (set_at l.members a v) ((v < l.i) × ((drawn l.drawing).home v ≡ a))
