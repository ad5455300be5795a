-- `automaton::starts_inside`: by the automaton of its initial state. Assumes nothing.
use Rattle.std.proofs.Common.{◌≡◌, ℕ, ◌<◌, Bool, true, false, ◌&&◌, eqb, length, Some, Decides, sym, refl, ap, ◌∙◌, subst, inl, inr, arith}
use Rattle.std.specs.Option.{option_eq}
use Rattle.std.proofs.Math.Bool.{and-true}
use Rattle.std.proofs.lemmas.Bool.{both_ways, cases_lt, lt-ltb, le-ltb}
use Rattle.std.proofs.lemmas.Bool.Decides.{Decides-at, Decides-eqb}
use Rattle.chart.specs.Ids.{AutomatonId}
use Rattle.hierarchy.specs.Hierarchies.{Hierarchy}
use Rattle.chart_tree.specs.Outlines.{drawn, home_in}
use Rattle.chart_tree.proofs.Drawn.{automata_are, initial_read}
use Rattle.chart_rules.proofs.automaton.starts_inside.Goals as goal

pub returns-in_default : goal.returns-in_default
returns-in_default c lt = let d = c.args.drawing.now in absurd (omega (arith, automata_are d, ap length c.as_slice.ensures.value, c.in_default.ensures.lookup.3))

abbrev same_no : AutomatonId → AutomatonId → Bool
same_no a b = eqb a.0 b.0 && true

-- whether the automaton that a state lies in is this one
lies_in : (h : Hierarchy) (v : ℕ) (a : AutomatonId) → a.0 < h.automata → Decides (option_eq same_no (home_in h v) (Some a)) (h.home v ≡ a.0)
lies_in h v a lt =
    elim (cases_lt (h.home v) h.automata) [
      | inl known ↦ let t = lt-ltb (h.home v) h.automata known in rw t (Decides-at _ _ (and-true (eqb (h.home v) a.0)) (Decides-eqb (h.home v) a.0))
      | inr past ↦ let f = le-ltb (h.home v) h.automata past in rw f ((λ e. absurd (both_ways false refl e)), (λ e. absurd (omega arith)))
    ]

pub returns : goal.returns
returns c lt =
    let d = c.args.drawing.now in
    let found = c.in-Some.ensures.lookup in
    let initial = initial_read d c.args.automaton.0 c.in-Some.said.now _ c.as_slice.ensures.value found.3.0 found.1 in
    subst (λ v. Decides c.eq.result ((drawn d).home v ≡ c.args.automaton.0)) (sym initial)
    (Decides-at _ _ (c.eq.ensures ∙ ap (λ o. option_eq same_no o (Some c.args.automaton)) c.home_of.ensures) (lies_in (drawn d) c.in-Some.said.now.initial.0 c.args.automaton lt))
