-- What a fault of a chart is numbered, and what it names. Assumes nothing.
--     transition_no t       the transition with the number t
--     chart_fault_number f  the refusal's number
--     named_by f            the automaton or the transition that it names
use Rattle.std.specs.Prelude.{ℕ}
use Rattle.format.specs.Elements.{number_no}
use Rattle.chart.specs.Ids.{TransitionId}
use Rattle.hierarchy.specs.declared.fault.ChartFault.{ChartFault}
use Rattle.hierarchy.specs.declared.fault.ChartFault.TheVariants.{Misplaced, StrayInitial, SplitEnds, IllFormed, NotFull}
use Rattle.hierarchy.specs.declared.fault.Part.{Part}
use Rattle.hierarchy.specs.declared.fault.Part.TheVariants.{Automaton, Transition}

abbrev pub transition_no : ℕ → TransitionId
transition_no = number_no

abbrev pub chart_fault_number : ChartFault → ℕ
chart_fault_number (Misplaced a) = 8
chart_fault_number (StrayInitial a) = 9
chart_fault_number (SplitEnds t) = 10
chart_fault_number (IllFormed t) = 11
chart_fault_number (NotFull t) = 12

abbrev pub named_by : ChartFault → Part
named_by (Misplaced a) = Automaton a
named_by (StrayInitial a) = Automaton a
named_by (SplitEnds t) = Transition t
named_by (IllFormed t) = Transition t
named_by (NotFull t) = Transition t
