-- The list's `spell`: the elements so far are put. Assumes nothing.
use Rattle.std.proofs.Common.{take}
use Rattle.format.specs.Elements.{list_text}
use Rattle.chart_writer.specs.Sinks.{Taken}
use Rattle.chart_writer.proofs.value.ArrayVecSpell.spell.Given as goal

abbrev pub invariant-loop-index : goal.invariant-loop-index
invariant-loop-index g l = Taken g.S.Sink.room g.S.Sink.took l.initial.sink (list_text g.E.Element.kind (take l.index l.list)) l.sink
