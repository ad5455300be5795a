-- The rows' `spell`: the rows so far are put. Assumes nothing.
use Rattle.std.proofs.Common.{take}
use Rattle.std.specs.List.{flat_map}
use Rattle.chart_writer.specs.Sinks.{Taken}
use Rattle.chart_writer.proofs.spell.RowsSpell.spell.Given as goal

abbrev pub invariant-loop-row : goal.invariant-loop-row
invariant-loop-row g l = Taken g.S.Sink.room g.S.Sink.took l.initial.sink (flat_map g.R.Spell.spelling (take l.row-index l.rows)) l.sink
