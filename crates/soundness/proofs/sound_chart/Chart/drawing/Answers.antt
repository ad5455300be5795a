-- `Chart::drawing`: sound by its type. Assumes nothing.
use Rattle.std.proofs.Common.{refl}
use Rattle.hierarchy.proofs.Tree.{tree_law}
use Rattle.chart_tree.specs.Outlines.{drawn}
use Rattle.soundness.proofs.Held.{chart_sound}
use Rattle.soundness.proofs.sound_chart.Chart.drawing.Goals as goal

pub returns : goal.returns
returns c =
    let d = c.args.self.now.outline.drawing in
    let s = chart_sound c.args.self.now in record { value = refl; sound = s; laws = tree_law (drawn d) s.rooted }
