-- A worked chart: a rower, who on landing sits in two automata at once. Assumes nothing.
--     rower into under      the plan, with the determinator of transition 0 and the state that automaton 1 stands under
--     Rows                  which of its variants are sound, and what is wrong with the others
use Rattle.std.specs.Prelude.{◌≡◌, ℕ, List, [], ◌∷◌, Some, None, codes}
use Rattle.chart.specs.Kinds.{state_no, automaton_no, event_no, condition_no}
use Rattle.chart.specs.Plans.{Plan}
use Rattle.chart.specs.declared.drawing.Parent.TheVariants.{Top, State}
use Rattle.chart.specs.declared.drawing.Term.TheVariants.{Holds}
use Rattle.chart.specs.Ids.{StateId}
use Rattle.hierarchy.specs.Checks.{first_fault}
use Rattle.hierarchy.specs.Faults.{transition_no}
use Rattle.hierarchy.specs.Meant.{hierarchy_of}
use Rattle.hierarchy.specs.declared.fault.ChartFault.TheVariants.{Misplaced, NotFull}

abbrev pub rower : List StateId → ℕ → Plan
rower into under = record {
  name = codes "rower";
  events = 3;
  automata =
      record { parent = Top; initial = state_no 0 }
      ∷ record { parent = State (state_no under); initial = state_no 2 }
      ∷ record { parent = State (state_no 1); initial = state_no 4 }
      ∷ [];
  states =
      record { automaton = automaton_no 0 }
      ∷ record { automaton = automaton_no 0 }
      ∷ record { automaton = automaton_no 1 }
      ∷ record { automaton = automaton_no 1 }
      ∷ record { automaton = automaton_no 2 }
      ∷ record { automaton = automaton_no 2 }
      ∷ [];
  transitions =
      record { source = state_no 0; restriction = []; trigger = event_no 0; guard = []; actions = []; target = state_no 1; determinator = into }
      ∷ record { source = state_no 1; restriction = []; trigger = event_no 1; guard = []; actions = []; target = state_no 0; determinator = [] }
      ∷ record { source = state_no 2; restriction = []; trigger = event_no 1; guard = []; actions = event_no 2 ∷ []; target = state_no 3; determinator = [] }
      ∷ record { source = state_no 4; restriction = []; trigger = event_no 2; guard = Holds (condition_no 0) ∷ []; actions = []; target = state_no 5; determinator = [] }
      ∷ [];
}

pub record Rows : Type 0 where
  pub stands : first_fault (hierarchy_of (rower (state_no 2 ∷ state_no 4 ∷ []) 1)) ≡ None
  pub half_landing : first_fault (hierarchy_of (rower (state_no 2 ∷ []) 1)) ≡ Some (NotFull (transition_no 0))
  pub twice_landing : first_fault (hierarchy_of (rower (state_no 2 ∷ state_no 3 ∷ []) 1)) ≡ Some (NotFull (transition_no 0))
  pub later : first_fault (hierarchy_of (rower (state_no 2 ∷ state_no 4 ∷ []) 4)) ≡ Some (Misplaced (automaton_no 1))
