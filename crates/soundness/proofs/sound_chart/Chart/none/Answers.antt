-- `Chart::none`: its drawing breaks no rule, by calculation. Assumes nothing.
use Rattle.std.proofs.Common.{◌≡◌, None, Ok, Err, Result, ap, ◌∙◌, rules}
use Rattle.std.specs.Result.{IsOk}
use Rattle.chart.specs.Plans.{plan_of}
use Rattle.chart.specs.declared.drawing.Drawing.{Drawing}
use Rattle.format.specs.Elements.{by}
use Rattle.hierarchy.specs.Checks.{first_fault, unless_broken}
use Rattle.hierarchy.specs.Meant.{hierarchy_of}
use Rattle.hierarchy.specs.declared.fault.ChartFault.{ChartFault}
use Rattle.chart_tree.specs.Outlines.{drawn}
use Rattle.soundness.specs.Charts.{chart_drawing, checked, none_plan}
use Rattle.soundness.specs.declared.sound_chart.Chart.{Chart}
use Rattle.soundness.proofs.sound_chart.Chart.none.Goals as goal

none_sound : (d : Drawing) → plan_of d ≡ none_plan → first_fault (drawn d) ≡ None
unfolding drawn
none_sound d e = ap (λ p. first_fault (hierarchy_of p)) e

is_chart : (d : Drawing) (r : Result Chart ChartFault) → plan_of d ≡ none_plan → by chart_drawing r ≡ checked d → IsOk r
is_chart d (Ok chart) e k = search rules
is_chart d (Err f) e k = let s : Err f ≡ Ok d = k ∙ ap (unless_broken d) (none_sound d e) in cc

pub unwrap-requires : goal.unwrap-requires
unwrap-requires c = is_chart c.least.result c.judge.result c.least.ensures c.judge.ensures
