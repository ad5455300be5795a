-- The list's `spell`: one element more, and where there is no room for it, there is none for all. Assumes nothing.
use Rattle.std.proofs.Common.{Ok, refl, arith}
use Rattle.fixed.specs.Items.{items}
use Rattle.chart_writer.specs.Writes.{comma_at}
use Rattle.chart_writer.specs.declared.fault.WriteFault.{WriteFault}
use Rattle.chart_writer.proofs.Lists.{list_more, list_fits}
use Rattle.chart_writer.proofs.Sinks.{puts_next, puts_none, taken_as}
use Rattle.chart_writer.proofs.value.ArrayVecSpell.spell.Goals as goal

pub returns-in_err-put_comma : goal.returns-in_err-put_comma
returns-in_err-put_comma g c =
    let fit = list_fits g.E.Element.kind c.as_slice-list.result.now (items c.args.self.now) c.loop-index.index c.index-list-index.result
    (comma_at c.loop-index.index) c.as_slice-list.ensures.value c.loop-index-test.true c.index-list-index.is refl in
    puts_none g.S.Sink.room g.S.Sink.took _ _ _ _ c.from_residual.ensures.0 (omega (arith, fit, c.loop-index.invariant.left, c.in_err-put_comma.ensures))

pub loop-index-preserved : goal.loop-index-preserved
loop-index-preserved g c =
    let laws = g.met.S.Sink.laws in
    taken_as (list_more g.E.Element.kind c.as_slice-list.result.now c.loop-index.index c.index-list-index.result
    (comma_at c.loop-index.index) c.loop-index-test.true c.index-list-index.is refl)
    (puts_next {F = WriteFault} laws _ _ (Ok tt) c.loop-index.invariant (puts_next {F = WriteFault} laws _ _ (Ok tt) c.in_ok-put_comma.ensures c.in_ok-spell.ensures))
