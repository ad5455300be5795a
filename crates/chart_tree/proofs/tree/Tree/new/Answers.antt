-- `Tree::new`: the tables, once all automata are gathered and have their sides. Assumes nothing.
use Rattle.std.proofs.Common.{refl}
use Rattle.chart_tree.specs.Outlines.{drawn}
use Rattle.chart_tree.proofs.Drawn.{proper}
use Rattle.chart_tree.proofs.Stages.{all_below, all_composite}
use Rattle.chart_tree.proofs.tree.Tree.new.Goals as goal

pub returns : goal.returns
returns c rooted =
    let d = c.args.drawing.now in
    let stage = c.new-regions.ensures rooted in
    let sides = c.sides-beside.ensures rooted stage in
    record {
      few_states = stage.few_states;
      below = all_below (drawn d) (proper d) rooted _ stage;
      beside = λ v w lt. sides.done ((drawn d).home v) v w lt refl;
      composite = all_composite (drawn d) (proper d) rooted _ stage;
    }
