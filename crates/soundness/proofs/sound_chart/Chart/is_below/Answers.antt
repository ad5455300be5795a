-- `Chart::is_below`: by the tree. Assumes nothing.
use Rattle.std.proofs.lemmas.Bool.Decides.{Decides-at}
use Rattle.soundness.proofs.Held.{chart_sound}
use Rattle.soundness.proofs.sound_chart.Chart.is_below.Goals as goal

pub returns : goal.returns
returns c = Decides-at _ _ c.contains.ensures.value (c.below.ensures (chart_sound c.args.self.now).rooted c.args.state.0)
