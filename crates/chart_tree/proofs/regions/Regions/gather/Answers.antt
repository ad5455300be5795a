-- `Regions::gather`: one automaton more is gathered, or it stands under no state. Assumes nothing.
use Rattle.std.proofs.Common.{arith}
use Rattle.chart_tree.specs.Outlines.{drawn}
use Rattle.chart_tree.proofs.Drawn.{proper}
use Rattle.chart_tree.proofs.Stages.{stage_skip, stage_more}
use Rattle.chart_tree.proofs.regions.Regions.gather.Goals as goal

pub returns-in-Some : goal.returns-in-Some
returns-in-Some c rooted stage =
    let d = c.args.drawing.now in
    stage_more (drawn d) (proper d) rooted c.args.automaton.0 c.in-Some.stand c.in-Some.ensures c.args.self.now stage
    c.at-inner.result c.insert-self.result c.join.new.self c.join-in-Some.new.self c.at-inner.ensures c.join.ensures c.join-in-Some.ensures c.insert-self.ensures

pub returns-in_default : goal.returns-in_default
returns-in_default c rooted stage =
    let d = c.args.drawing.now in
    stage_skip (drawn d) (proper d) rooted c.args.automaton.0 c.args.self.now
    (λ p u. let lt = rooted.under c.args.automaton.0 p u in omega (arith, c.in_default.ensures p u, lt.0, lt.2)) stage
