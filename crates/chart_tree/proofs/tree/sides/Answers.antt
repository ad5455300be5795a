-- `tree::sides`: one automaton after the other. Assumes nothing.
use Rattle.std.proofs.Common.{◌≡◌, subst, arith}
use Rattle.chart_tree.specs.Outlines.{drawn}
use Rattle.chart_tree.specs.Regions.{Sides}
use Rattle.chart_tree.proofs.Drawn.{automata_are}
use Rattle.chart_tree.proofs.Stages.{sides_next}
use Rattle.chart_tree.proofs.tree.sides.Goals as goal

pub loop-a-preserved : goal.loop-a-preserved
loop-a-preserved c rooted stage =
    let sides = c.loop-a.invariant rooted stage in
    let more = rw c.new.ensures at c.sides_of-more.ensures in
    sides_next (drawn c.args.drawing.now) c.loop-a.a c.loop-a.beside c.join.new.self c.sides_of-more.result (omega arith) sides c.join.ensures (more rooted stage sides)

pub returns : goal.returns
returns c rooted stage =
    let d = c.args.drawing.now in
    let n : c.loop-a.a ≡ (drawn d).automata = omega (arith, automata_are d) in subst (λ k. Sides (drawn d) k c.loop-a.beside) n (c.loop-a.invariant rooted stage)
