-- What a drawing says: its plan, in which a list is just a list. Two drawings that differ only in places that
-- no list reaches have one plan. Assumes nothing.
--     Plan              a chart's name, how many events it has, its automata, its states and its transitions
--     transition_plan   what a transition says
--     plan_of           what a drawing says
--     Blank d           a drawing without automata, states and transitions
use Rattle.std.specs.Prelude.{◌≡◌, ℕ, List, [], map}
use Rattle.fixed.specs.Items.{items}
use Rattle.chart.specs.Ids.{StateId}
use Rattle.chart.specs.Ids.{EventId}
use Rattle.chart.specs.declared.drawing.Automaton.{Automaton}
use Rattle.chart.specs.declared.drawing.State.{State}
use Rattle.chart.specs.declared.drawing.Term.{Term}
use Rattle.chart.specs.declared.drawing.Transition.{Transition}
use Rattle.chart.specs.declared.drawing.Drawing.{Drawing}

pub record TransitionPlan : Type 0 where
  pub source : StateId
  pub restriction : List StateId
  pub trigger : EventId
  pub guard : List Term
  pub actions : List EventId
  pub target : StateId
  pub determinator : List StateId

pub record Plan : Type 0 where
  pub name : List ℕ
  pub events : ℕ
  pub automata : List Automaton
  pub states : List State
  pub transitions : List TransitionPlan

abbrev pub transition_plan : Transition → TransitionPlan
transition_plan t = record {
  source = t.source;
  restriction = items t.source_restriction;
  trigger = t.trigger;
  guard = items t.guard;
  actions = items t.actions;
  target = t.target;
  determinator = items t.target_determinator;
}

abbrev pub plan_of : Drawing → Plan
plan_of d = record {
  name = items d.name.bytes;
  events = d.events;
  automata = items d.automata;
  states = items d.states;
  transitions = map transition_plan (items d.transitions);
}

pub record Blank (d : Drawing) : Type 0 where
  pub automata : items d.automata ≡ []
  pub states : items d.states ≡ []
  pub transitions : items d.transitions ≡ []
