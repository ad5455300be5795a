-- `reader::fill`: the three kinds of rows, one behind the other. Assumes nothing.
use Rattle.std.proofs.Common.{◌*◌, refl, sym, ap, ◌∙◌, arith}
use Rattle.fixed.specs.Items.{items}
use Rattle.format.specs.Readers.{times}
use Rattle.format.proofs.Laws.{times_length}
use Rattle.chart_reader.specs.Verdicts.{automaton_lines, state_lines, transition_lines, rows}
use Rattle.chart_reader.proofs.Steps.{plain, rows_three, filled}
use Rattle.chart_reader.proofs.reader.fill.Goals as goal

pub returns : goal.returns
returns c =
    let k = c.args.counts in
    let d = c.args.drawing.now in
    let text = c.args.lines.now.rest.now in
    let first = c.read_rows.new.lines in
    let second = c.read_rows-2.new.lines in
    let a = plain (items d.automata) _ _ _ c.requires.empty.automata c.in_ok-read_rows.ensures.0 in
    let s = plain (items d.states) _ _ _ c.requires.empty.states c.in_ok-read_rows-2.ensures.0 in
    let left = c.read_rows-3.new.lines in
    let count = c.args.transitions in
    let begin = c.requires.behind_the_head in
    let from_6 = ap (λ n. times k.automata 2 (automaton_lines k) n text) (sym begin) ∙ a in
    let la = times_length k.automata 2 (automaton_lines k) _ _ _ _ a in
    let ls = times_length k.states 1 (state_lines k) _ _ _ _ s in
    let n2 = c.in_ok-read_rows.ensures.1 in
    let n3 = c.in_ok-read_rows-2.ensures.1 in
    filled (rows k count 6 text) d _ second left (7 * count) (times count 7 (transition_lines k) second.number second.rest.now)
    (rows_three k count 6 first.number second.number text (items c.read_rows.new.rows) (items c.read_rows-2.new.rows) first.rest.now second.rest.now from_6 (omega arith) s (omega arith))
    c.requires.empty.transitions refl refl
    (λ n w. let lt = times_length count 7 (transition_lines k) _ _ _ _ w in omega arith)
    c.read_rows-3.result c.read_rows-3.ensures
