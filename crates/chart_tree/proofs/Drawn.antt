-- The parts of a drawing's hierarchy, by the places of its lists. Assumes nothing.
use Rattle.std.proofs.Common.{◌≡◌, ℕ, ◌<◌, ◌≤◌, List, length, get_or, None, sym, refl, ap, ◌∙◌, arith}
use Rattle.std.proofs.lemmas.List.{get_or_default, get_or_past}
use Rattle.fixed.specs.Items.{items}
use Rattle.chart.specs.Plans.{plan_of}
use Rattle.chart.specs.declared.drawing.Automaton.{Automaton}
use Rattle.chart.specs.declared.drawing.Drawing.{Drawing}
use Rattle.chart.specs.declared.drawing.State.{State}
use Rattle.hierarchy.specs.Hierarchies.{Proper}
use Rattle.hierarchy.specs.Meant.{parent_state, no_automaton, no_state}
use Rattle.hierarchy.proofs.Meant.{meant_proper}
use Rattle.chart_tree.specs.Outlines.{drawn}

pub proper : (d : Drawing) → Proper (drawn d)
unfolding drawn
proper d = meant_proper (plan_of d)

pub automata_are : (d : Drawing) → (drawn d).automata ≡ length (items d.automata)
unfolding drawn
automata_are d = refl

pub states_are : (d : Drawing) → (drawn d).states ≡ length (items d.states)
unfolding drawn
states_are d = refl

pub home_read : (d : Drawing) (v : ℕ) (e : State) (xs : List State) → xs ≡ items d.states → v < length xs → (drawn d).home v ≡ (get_or xs v e).automaton.0
unfolding drawn
home_read d v e xs same lt =
    let n : v < length (items d.states) = omega (arith, ap length same) in
    ap (λ (s : State). s.automaton.0) (get_or_default (items d.states) v (no_state (length (items d.automata))) e n) ∙ ap (λ (ys : List State). (get_or ys v e).automaton.0) (sym same)

pub home_past : (d : Drawing) (v : ℕ) (xs : List State) → xs ≡ items d.states → length xs ≤ v → (drawn d).home v ≡ (drawn d).automata
unfolding drawn
home_past d v xs same past =
    ap (λ (s : State). s.automaton.0) (get_or_past (items d.states) v (no_state (length (items d.automata))) (omega (arith, ap length same)))

-- the automaton x in its place
automaton_read : (d : Drawing) (a : ℕ) (x : Automaton) (xs : List Automaton) → xs ≡ items d.automata → a < length xs → x ≡ get_or xs a x → get_or (items d.automata) a no_automaton ≡ x
automaton_read d a x xs same lt here =
    let n : a < length (items d.automata) = omega (arith, ap length same) in
    get_or_default (items d.automata) a no_automaton x n ∙ ap (λ (ys : List Automaton). get_or ys a x) (sym same) ∙ sym here

pub parent_read : (d : Drawing) (a : ℕ) (x : Automaton) (xs : List Automaton) → xs ≡ items d.automata → a < length xs → x ≡ get_or xs a x → (drawn d).parent a ≡ parent_state x.parent
unfolding drawn
parent_read d a x xs same lt here = ap (λ (y : Automaton). parent_state y.parent) (automaton_read d a x xs same lt here)

pub parent_past : (d : Drawing) (a : ℕ) (xs : List Automaton) → xs ≡ items d.automata → length xs ≤ a → (drawn d).parent a ≡ None
unfolding drawn
parent_past d a xs same past = ap (λ (x : Automaton). parent_state x.parent) (get_or_past (items d.automata) a no_automaton (omega (arith, ap length same)))

pub initial_read : (d : Drawing) (a : ℕ) (x : Automaton) (xs : List Automaton) → xs ≡ items d.automata → a < length xs → x ≡ get_or xs a x → (drawn d).initial a ≡ x.initial.0
unfolding drawn
initial_read d a x xs same lt here = ap (λ (y : Automaton). y.initial.0) (automaton_read d a x xs same lt here)
