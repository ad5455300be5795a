-- What a plan means as a hierarchy: its lists as functions from numbers. Assumes nothing.
--     hierarchy_of p        the hierarchy that a plan draws
--     MeantProper           whatever a plan says, its hierarchy tells the chart's numbers from others
use Rattle.std.specs.Prelude.{ℕ, [], length, Some, None, Option, slice_index_or}
use Rattle.chart.specs.Kinds.{state_no, automaton_no, event_no}
use Rattle.chart.specs.Plans.{Plan, TransitionPlan}
use Rattle.chart.specs.declared.drawing.Automaton.{Automaton}
use Rattle.chart.specs.declared.drawing.Parent.{Parent}
use Rattle.chart.specs.declared.drawing.Parent.TheVariants.{Top, State}
use Rattle.chart.specs.declared.drawing.State as state
use Rattle.hierarchy.specs.Hierarchies.{Hierarchy, Proper}

abbrev pub parent_state : Parent → Option ℕ
parent_state Top = None
parent_state (State s) = Some s.0

-- what stands for an automaton, a state, a transition that there is not
abbrev pub no_automaton : Automaton
no_automaton = record { parent = Top; initial = state_no 0 }

-- n is the number of automata, so that no automaton has it
abbrev pub no_state : ℕ → state.State
no_state n = record { automaton = automaton_no n }

abbrev pub no_transition : TransitionPlan
no_transition = record { source = state_no 0; restriction = []; trigger = event_no 0; guard = []; actions = []; target = state_no 0; determinator = [] }

abbrev pub hierarchy_of : Plan → Hierarchy
hierarchy_of p = record {
  automata = length p.automata;
  states = length p.states;
  transitions = length p.transitions;
  parent = λ a. parent_state (slice_index_or p.automata a no_automaton).parent;
  home = λ v. (slice_index_or p.states v (no_state (length p.automata))).automaton.0;
  initial = λ a. (slice_index_or p.automata a no_automaton).initial.0;
  source = λ t. (slice_index_or p.transitions t no_transition).source.0;
  restriction = λ t. (slice_index_or p.transitions t no_transition).restriction;
  target = λ t. (slice_index_or p.transitions t no_transition).target.0;
  determinator = λ t. (slice_index_or p.transitions t no_transition).determinator;
}

abbrev pub MeantProper : Type 0
MeantProper = (p : Plan) → Proper (hierarchy_of p)
