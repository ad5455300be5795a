-- A transition's `spell`: its lines one behind the other. Assumes nothing.
use Rattle.chart_writer.proofs.Sinks.{puts_next}
use Rattle.chart_writer.proofs.row.TransitionSpell.spell.Goals as goal

pub returns : goal.returns
returns g c =
    let laws = g.met.S.Sink.laws in
    puts_next laws _ _ _ c.in_ok-spell.ensures (puts_next laws _ _ _ c.in_ok-spell-2.ensures (puts_next laws _ _ _ c.in_ok-spell-3.ensures (puts_next laws _ _ _ c.in_ok-spell-4.ensures (puts_next laws _ _ _ c.in_ok-spell-5.ensures (puts_next laws _ _ _ c.in_ok-spell-6.ensures (c.spell-7.ensures))))))
