-- `Outline::below`: by the tree. Assumes nothing.
use Rattle.std.proofs.lemmas.Bool.Decides.{Decides-at}
use Rattle.chart_tree.proofs.Held.{outlined}
use Rattle.chart_tree.proofs.outline.Outline.below.Goals as goal

pub returns : goal.returns
returns c rooted v = Decides-at _ _ (c.below.ensures v) ((outlined c.args.self.now rooted).below c.args.state.0 v)
