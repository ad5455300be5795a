-- The parts of a drawing's text, one behind the other, are the text of its plan. Assumes nothing.
use Rattle.std.proofs.Common.{◌≡◌, ℕ, List, ◌++◌, length, sym, ap, ◌∙◌, ap₂}
use Rattle.std.specs.List.{flat_map}
use Rattle.std.proofs.lemmas.List.{length-map}
use Rattle.std.proofs.lemmas.List.Folds.{flat_map-map}
use Rattle.fixed.specs.Items.{items}
use Rattle.format.specs.Bytes.{spelled}
use Rattle.chart.specs.Plans.{plan_of, transition_plan}
use Rattle.chart.specs.declared.drawing.Automaton.{Automaton}
use Rattle.chart.specs.declared.drawing.State.{State}
use Rattle.chart.specs.declared.drawing.Transition.{Transition}
use Rattle.chart.specs.declared.drawing.Drawing.{Drawing}
use Rattle.chart_text.specs.Texts.{line_text, automaton_text, state_text, transition_text, text_of}
use Rattle.chart_text.specs.declared.line.Key.TheVariants.{Chart, Events, Automata, States, Transitions}

also : {a b c d : List ℕ} → a ≡ b → c ≡ d → a ++ c ≡ b ++ d
also p q = ap₂ (λ x y. x ++ y) p q

-- name, counts and rows as the code has them
abbrev parts : List ℕ → ℕ → ℕ → ℕ → ℕ → List ℕ → List ℕ → List ℕ → List ℕ
parts name events a s t automata states transitions =
    line_text Chart name
    ++ (line_text Events (spelled events)
    ++ (line_text Automata (spelled a)
    ++ (line_text States (spelled s)
    ++ (line_text Transitions (spelled t)
    ++ (automata ++ (states ++ transitions))))))

pub text_is : (d : Drawing) (e a s t : ℕ) (automata : List Automaton) (states : List State) (transitions : List Transition)
    → e ≡ d.events → a ≡ length (items d.automata) → s ≡ length (items d.states) → t ≡ length (items d.transitions)
    → automata ≡ items d.automata → states ≡ items d.states → transitions ≡ items d.transitions
    → parts (items d.name.bytes) e a s t (flat_map automaton_text automata) (flat_map state_text states) (flat_map (λ x. transition_text (transition_plan x)) transitions)
    ≡ text_of (plan_of d)
text_is d e a s t automata states transitions p q r u v w z =
    ap (λ ys. line_text Chart (items d.name.bytes) ++ ys)
    (also (ap (λ n. line_text Events (spelled n)) p)
    (also (ap (λ n. line_text Automata (spelled n)) q) (also (ap (λ n. line_text States (spelled n)) r)
    (also (ap (λ n. line_text Transitions (spelled n)) (u ∙ sym (length-map (items d.transitions) transition_plan)))
    (also (ap (flat_map automaton_text) v) (also (ap (flat_map state_text) w)
    (ap (flat_map (λ x. transition_text (transition_plan x))) z ∙ sym (flat_map-map transition_text transition_plan (items d.transitions)))))))))
