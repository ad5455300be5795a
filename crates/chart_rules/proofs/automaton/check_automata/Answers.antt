-- `automaton::check_automata`: one automaton after the other. Assumes nothing.
use Rattle.std.proofs.Common.{max, arith}
use Rattle.std.proofs.lemmas.Result.{err_from_is_err_and}
use Rattle.hierarchy.specs.Checks.{automaton_fault}
use Rattle.chart_tree.specs.Outlines.{drawn}
use Rattle.chart_tree.proofs.Drawn.{automata_are}
use Rattle.chart_rules.proofs.Loops.{found, passed_more, none_left}
use Rattle.chart_rules.proofs.automaton.check_automata.Goals as goal

pub returns-in_err-check_automaton : goal.returns-in_err-check_automaton
returns-in_err-check_automaton c =
    let h = drawn c.args.drawing.now in
    let n = automata_are c.args.drawing.now in
    let out = err_from_is_err_and c.from_residual.result c.from_residual.ensures.1 in
    rw (out.1, out.2) (found (max 1 h.automata) (automaton_fault h) c.loop-a.a c.loop-a.invariant _ (omega arith) (rw c.new.ensures at c.in_err-check_automaton.ensures))

pub loop-a-preserved : goal.loop-a-preserved
loop-a-preserved c =
    let h = drawn c.args.drawing.now in
    passed_more (max 1 h.automata) (automaton_fault h) c.loop-a.a c.loop-a.invariant _ (rw c.new.ensures at c.in_ok-check_automaton.ensures)

pub returns : goal.returns
returns c =
    let h = drawn c.args.drawing.now in
    let n = automata_are c.args.drawing.now in none_left (max 1 h.automata) (automaton_fault h) c.loop-a.a c.loop-a.invariant (omega arith)
