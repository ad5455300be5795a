-- `tree::sides`: the automata that were passed have their sides. Assumes nothing.
use Rattle.hierarchy.specs.Rules.{Rooted}
use Rattle.chart_tree.specs.Outlines.{drawn}
use Rattle.chart_tree.specs.Regions.{Stage, Sides}
use Rattle.chart_tree.proofs.tree.sides.Given as goal

abbrev pub invariant-loop-a : goal.invariant-loop-a
invariant-loop-a l = Rooted (drawn l.drawing) → Stage (drawn l.drawing) 0 l.regions → Sides (drawn l.drawing) l.a l.beside
