-- A transition in its place of the drawing's list. Assumes nothing.
use Rattle.std.proofs.Common.{◌≡◌, ℕ, ◌<◌, List, map, length, get_or, sym, ap, ◌∙◌, arith}
use Rattle.std.proofs.lemmas.List.{length-map, get_or-map}
use Rattle.fixed.specs.Items.{items}
use Rattle.chart.specs.Plans.{TransitionPlan, transition_plan}
use Rattle.chart.specs.declared.drawing.Drawing.{Drawing}
use Rattle.chart.specs.declared.drawing.Transition.{Transition}
use Rattle.hierarchy.specs.Meant.{no_transition}
use Rattle.chart_tree.specs.Outlines.{drawn}
use Rattle.chart_rules.specs.Lists.{Says}

pub transitions_are : (d : Drawing) → (drawn d).transitions ≡ length (items d.transitions)
unfolding drawn
transitions_are d = length-map (items d.transitions) transition_plan

plan_read : (d : Drawing) (t : ℕ) (e : Transition) (xs : List Transition) → xs ≡ items d.transitions → t < length xs
    → get_or (map transition_plan (items d.transitions)) t no_transition ≡ transition_plan (get_or xs t e)
plan_read d t e xs same lt =
    let n : t < length (items d.transitions) = omega (arith, ap length same) in
    get_or-map transition_plan (items d.transitions) t e no_transition n ∙ ap (λ (ys : List Transition). transition_plan (get_or ys t e)) (sym same)

pub says : (d : Drawing) (t : ℕ) (e : Transition) (xs : List Transition) → xs ≡ items d.transitions → t < length xs → Says (drawn d) t (get_or xs t e)
unfolding drawn
says d t e xs same lt =
    let p = plan_read d t e xs same lt in
    record {
      known = omega (arith, length-map (items d.transitions) transition_plan, ap length same);
      source = ap (λ (x : TransitionPlan). x.source.0) p;
      restriction = ap (λ (x : TransitionPlan). x.restriction) p;
      target = ap (λ (x : TransitionPlan). x.target.0) p;
      determinator = ap (λ (x : TransitionPlan). x.determinator) p;
    }
