-- `Regions::new`: before the first automaton is gathered. Assumes nothing.
use Rattle.std.proofs.Common.{◌≡◌, subst, arith}
use Rattle.chart_tree.specs.Outlines.{drawn}
use Rattle.chart_tree.specs.Regions.{Stage}
use Rattle.chart_tree.proofs.Drawn.{proper, automata_are}
use Rattle.chart_tree.proofs.Stages.{stage_start}
use Rattle.chart_tree.proofs.regions.Regions.new.Goals as goal

pub loop-a-init : goal.loop-a-init
loop-a-init c rooted =
    let d = c.args.drawing.now in
    let n : (drawn d).automata ≡ c.len-a.result = omega (arith, automata_are d) in
    subst (λ k. Stage (drawn d) k (record { within = c.members.result; below = c.blank.result; composite = c.empty.result })) n
    (stage_start (drawn d) (proper d) _ c.members.ensures (omega arith) c.blank.ensures c.empty.ensures)
