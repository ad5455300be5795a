-- `check::judge`: the automata, and then the transitions by the tree. Assumes nothing.
use Rattle.std.proofs.Common.{◌≡◌, None, Option, sym, ap, ◌∙◌}
use Rattle.std.proofs.lemmas.Result.{err_from_is_err_and}
use Rattle.chart.specs.declared.drawing.Drawing.{Drawing}
use Rattle.hierarchy.specs.Checks.{or_else, automata_fault_lem, first_fault, first_of, transition_fault, unless_broken}
use Rattle.hierarchy.specs.declared.fault.ChartFault.{ChartFault}
use Rattle.hierarchy.specs.Rules.{Rooted}
use Rattle.hierarchy.proofs.Checks.{automata_right, sound_right}
use Rattle.hierarchy.proofs.Firsts.{kept, broken}
use Rattle.chart_tree.specs.Outlines.{drawn}
use Rattle.chart_tree.proofs.Drawn.{proper}
use Rattle.soundness.specs.Charts.{checked}
use Rattle.soundness.proofs.check.judge.Goals as goal

abbrev rest : Drawing → Option ChartFault
rest d = first_of (drawn d).transitions (transition_fault (drawn d))

-- the automata break no rule, so the tree can be relied on
rooted_by : (d : Drawing) → automata_fault_lem (drawn d) ≡ None → Rooted (drawn d)
rooted_by d none = (automata_right (drawn d) (proper d)).0 none

-- what the transitions answer is then the answer
rest_is : (d : Drawing) (o : Option ChartFault) → automata_fault_lem (drawn d) ≡ None → rest d ≡ o → first_fault (drawn d) ≡ o
rest_is d o none e = ap (λ a. or_else a (rest d)) none ∙ e

pub returns-in_err-check_automata : goal.returns-in_err-check_automata
returns-in_err-check_automata c =
    let d = c.args.drawing in
    let out = err_from_is_err_and c.from_residual.result c.from_residual.ensures.1 in
    let found = broken tt _ (automata_fault_lem (drawn d)) c.in_err-check_automata.ensures in
    rw (out.1, out.2) (sym (ap (λ a. unless_broken d (or_else a (rest d))) found))

pub returns-in_err-check_transitions : goal.returns-in_err-check_transitions
returns-in_err-check_transitions c =
    let d = c.new-outline.result.drawing in
    let same : d ≡ c.args.drawing = c.new-outline.ensures in
    let none = ap (λ x. automata_fault_lem (drawn x)) same ∙ kept tt _ _ c.in_ok-check_automata.ensures in
    let out = err_from_is_err_and c.from_residual-in_err-check_transitions.result c.from_residual-in_err-check_transitions.ensures.1 in
    let found = broken tt _ (rest d) (c.in_err-check_transitions.ensures (rooted_by d none)) in
    rw (out.1, out.2) (sym (ap (unless_broken d) (rest_is d _ none found)) ∙ ap checked same)

pub invariant_of-result : goal.invariant_of-result
invariant_of-result c =
    let d = c.new-outline.result.drawing in
    let same : d ≡ c.args.drawing = c.new-outline.ensures in
    let none = ap (λ x. automata_fault_lem (drawn x)) same ∙ kept tt _ _ c.in_ok-check_automata.ensures in
    record { sound = ∣ (sound_right (drawn d) (proper d)).0 (rest_is d None none (kept tt _ (rest d) (c.in_ok-check_transitions.ensures (rooted_by d none)))) ∣₁ }

pub returns : goal.returns
returns c =
    let d = c.new-outline.result.drawing in
    let same : d ≡ c.args.drawing = c.new-outline.ensures in
    let none = ap (λ x. automata_fault_lem (drawn x)) same ∙ kept tt _ _ c.in_ok-check_automata.ensures in
    sym (ap (unless_broken d) (rest_is d None none (kept tt _ (rest d) (c.in_ok-check_transitions.ensures (rooted_by d none))))) ∙ ap checked same
