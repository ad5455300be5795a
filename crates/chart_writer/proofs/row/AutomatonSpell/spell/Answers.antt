-- An automaton's `spell`: its lines one behind the other. Assumes nothing.
use Rattle.chart_writer.proofs.Sinks.{puts_next}
use Rattle.chart_writer.proofs.row.AutomatonSpell.spell.Goals as goal

pub returns : goal.returns
returns g c =
    let laws = g.met.S.Sink.laws in
    puts_next laws _ _ _ c.in_ok-spell.ensures (c.spell-2.ensures)
