-- `Regions::new`: the automata from `a` on are gathered. Assumes nothing.
use Rattle.hierarchy.specs.Rules.{Rooted}
use Rattle.chart_tree.specs.Outlines.{drawn}
use Rattle.chart_tree.specs.Regions.{Stage}
use Rattle.chart_tree.proofs.regions.Regions.new.Given as goal

abbrev pub invariant-loop-a : goal.invariant-loop-a
invariant-loop-a l = Rooted (drawn l.drawing) → Stage (drawn l.drawing) l.a l.regions
