-- `write`: the page is what the drawing is spelled as, and what stood behind. Assumes nothing.
use Rattle.std.proofs.Common.{[], refl, rules}
use Rattle.chart_writer.proofs.write.Goals as goal

pub returns : goal.returns
returns c =
    let name = c.in_ok-spell-2.ensures.bytes_are.0 in
    let put = c.in_ok-spell-2.ensures.bytes_are.1.extends [] c.args.out.now (record { count = refl; after = refl }) in
    record { count = put.count; after = search rules }
