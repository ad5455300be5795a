-- `report::report_on`: what was read is written as the text, so that no chart comes back changed. Assumes nothing.
use Rattle.std.proofs.Common.{sym, ◌∙◌, true≢false}
use Rattle.chart.specs.Plans.{plan_of}
use Rattle.chart_check.proofs.report.report_on.Goals as goal

pub returns-in-Ok-2 : goal.returns-in-Ok-2
returns-in-Ok-2 c =
    let same = c.in-Ok.ensures.back c.args.text.now (plan_of c.in-Ok.drawing) (sym c.in-Ok.ensures.answer) in
    absurd (true≢false (sym (c.in_ok-comes_back.ensures.1 same) ∙ c.if-branch.false))
