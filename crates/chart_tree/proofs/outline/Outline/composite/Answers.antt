-- `Outline::composite`: by the tree. Assumes nothing.
use Rattle.std.proofs.lemmas.Bool.Decides.{Decides-at}
use Rattle.chart_tree.proofs.Held.{outlined}
use Rattle.chart_tree.proofs.outline.Outline.composite.Goals as goal

pub returns : goal.returns
returns c rooted u = Decides-at _ _ (c.composite.ensures u) ((outlined c.args.self.now rooted).composite u)
