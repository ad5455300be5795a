-- A drawing's `spell`: its lines one behind the other are the text of its plan. Assumes nothing.
use Rattle.std.proofs.Common.{◌∙◌}
use Rattle.chart_writer.proofs.Sinks.{puts_next, puts_as}
use Rattle.chart_writer.proofs.Texts.{text_is}
use Rattle.chart_writer.proofs.row.DrawingSpell.spell.Goals as goal

pub returns : goal.returns
returns g c =
    let laws = g.met.S.Sink.laws in
    puts_as g.S.Sink.room g.S.Sink.took c.args.sink.now c.spell-8.new.sink c.spell-8.result
    (text_is c.args.self.now c.new-events.result.0 c.new-automata.result.0 c.new-states.result.0 c.new-transitions.result.0 c.as_slice.result.now c.as_slice-2.result.now c.as_slice-3.result.now
    c.new-events.ensures (c.new-automata.ensures ∙ c.len.ensures.value) (c.new-states.ensures ∙ c.len-2.ensures.value) (c.new-transitions.ensures ∙ c.len-3.ensures.value) c.as_slice.ensures.value c.as_slice-2.ensures.value c.as_slice-3.ensures.value)
    (puts_next laws _ _ _ c.in_ok-spell.ensures
    (puts_next laws _ _ _ c.in_ok-spell-2.ensures
    (puts_next laws _ _ _ c.in_ok-spell-3.ensures
    (puts_next laws _ _ _ c.in_ok-spell-4.ensures
    (puts_next laws _ _ _ c.in_ok-spell-5.ensures
    (puts_next laws _ _ _ c.in_ok-spell-6.ensures
    (puts_next laws _ _ _ c.in_ok-spell-7.ensures c.spell-8.ensures)))))))
