-- The element's `spell`: its letters, one by one, are its spelling. Assumes nothing.
use Rattle.std.proofs.Common.{◌∙◌}
use Rattle.chart_writer.proofs.Lists.{bytes_alone}
use Rattle.chart_writer.proofs.Sinks.{puts_as}
use Rattle.chart_writer.proofs.value.SingleSpell.spell.Goals as goal

pub returns : goal.returns
returns g c = puts_as g.S.Sink.room g.S.Sink.took _ _ _ (bytes_alone _ ∙ c.as_slice.ensures.value ∙ c.letters.ensures) c.spell.ensures
