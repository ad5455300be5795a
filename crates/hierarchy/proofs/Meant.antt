-- The hierarchy of every plan is proper: past the end of a list stands what no chart has. Assumes nothing.
use Rattle.std.proofs.Common.{ℕ, ◌<◌, length, ap, inl, inr, arith}
use Rattle.std.proofs.lemmas.List.{get_or_past}
use Rattle.std.proofs.lemmas.Bool.{cases_lt}
use Rattle.chart.specs.Plans.{Plan}
use Rattle.chart.specs.declared.drawing.Automaton.{Automaton}
use Rattle.chart.specs.declared.drawing.State as state
use Rattle.hierarchy.specs.Hierarchies.{Under}
use Rattle.hierarchy.specs.Meant.{parent_state, no_automaton, no_state, hierarchy_of, MeantProper}
use Rattle.hierarchy.proofs.Tree.{not_some}

parents : (p : Plan) (a s : ℕ) → Under (hierarchy_of p) a s → a < length p.automata
parents p a s u =
    elim (cases_lt a (length p.automata)) [
      | inl lt ↦ lt
      | inr past ↦ absurd (not_some _ s (ap (λ (x : Automaton). parent_state x.parent) (get_or_past p.automata a no_automaton past)) u)
    ]

homes : (p : Plan) (v : ℕ) → (hierarchy_of p).home v < length p.automata → v < length p.states
homes p v k =
    elim (cases_lt v (length p.states)) [
      | inl lt ↦ lt
      | inr past ↦
          let none = no_state (length p.automata) in
          absurd (omega (arith, ap (λ (x : state.State). x.automaton.0) (get_or_past p.states v none past)))
    ]

pub meant_proper : MeantProper
meant_proper p = record { parent = parents p; home = homes p }
