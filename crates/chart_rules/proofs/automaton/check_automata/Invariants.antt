-- `automaton::check_automata`: the automata that were passed break no rule. Assumes nothing.
use Rattle.std.proofs.Common.{◌≡◌, None}
use Rattle.hierarchy.specs.Checks.{first_of, automaton_fault}
use Rattle.chart_tree.specs.Outlines.{drawn}
use Rattle.chart_rules.proofs.automaton.check_automata.Given as goal

abbrev pub invariant-loop-a : goal.invariant-loop-a
invariant-loop-a l = first_of l.a (automaton_fault (drawn l.drawing)) ≡ None
