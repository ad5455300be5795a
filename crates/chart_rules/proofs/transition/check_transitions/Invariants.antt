-- `transition::check_transitions`: the transitions that were passed break no rule. Assumes nothing.
use Rattle.std.proofs.Common.{◌≡◌, None}
use Rattle.hierarchy.specs.Checks.{first_of, transition_fault}
use Rattle.hierarchy.specs.Rules.{Rooted}
use Rattle.chart_tree.specs.Outlines.{drawn}
use Rattle.chart_rules.proofs.transition.check_transitions.Given as goal

abbrev pub invariant-loop-t : goal.invariant-loop-t
invariant-loop-t l = Rooted (drawn l.outline.drawing) → first_of l.t (transition_fault (drawn l.outline.drawing)) ≡ None
