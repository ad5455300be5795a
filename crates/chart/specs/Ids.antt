-- The numbers by which the things of a chart go. Assumes nothing.
use Rattle.format.specs.declared.number.Number.{Number}
use Rattle.chart.specs.declared.id.States.{States}
use Rattle.chart.specs.declared.id.Automata.{Automata}
use Rattle.chart.specs.declared.id.Events.{Events}
use Rattle.chart.specs.declared.id.Conditions.{Conditions}
use Rattle.chart.specs.declared.id.Transitions.{Transitions}

abbrev pub StateId : Type 0
StateId = Number States

abbrev pub AutomatonId : Type 0
AutomatonId = Number Automata

abbrev pub EventId : Type 0
EventId = Number Events

abbrev pub ConditionId : Type 0
ConditionId = Number Conditions

abbrev pub TransitionId : Type 0
TransitionId = Number Transitions
