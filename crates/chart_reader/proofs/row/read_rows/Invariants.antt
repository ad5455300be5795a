-- `row::read_rows`: the rows so far, with what the rest of the lines gives, are the answer. Assumes nothing.
use Rattle.std.proofs.Common.{◌≡◌, ◌+◌, ◌-◌, ◌*◌, ◌≤◌, length}
use Rattle.fixed.specs.Items.{items, most}
use Rattle.chart_reader.specs.Inner.{more_rows}
use Rattle.chart_reader.proofs.row.read_rows.Given as goal

abbrev pub invariant-loop : goal.invariant-loop
invariant-loop g l =
    (length (items l.rows) + (l.count - l.counter) ≤ most g.row.N) × (l.lines.number + 8 * (l.count - l.counter) ≤ l.initial.lines.number + 8 * l.count)
    × (l.lines.number ≡ l.initial.lines.number + g.R.Row.height * l.counter)
    × (more_rows g.R.Row.said g.R.Row.height (g.R.Row.reads l.counts) (items l.rows) (l.count - l.counter) l.lines.number l.lines.rest.now
    ≡ more_rows g.R.Row.said g.R.Row.height (g.R.Row.reads l.counts) (items l.initial.rows) l.count l.initial.lines.number l.initial.lines.rest.now)
