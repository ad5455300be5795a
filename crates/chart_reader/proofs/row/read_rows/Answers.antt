-- `row::read_rows`: one row more, its fault, and the end. Assumes nothing.
use Rattle.std.proofs.Common.{◌≡◌, ◌+◌, ◌-◌, ◌*◌, [], ◌∷◌, ◌++◌, map, length, sym, ap, ◌∙◌, ap₂, mul-suc, arith}
use Rattle.std.proofs.lemmas.List.{map_push, length_push}
use Rattle.std.proofs.lemmas.Result.{err_from_is_err_and}
use Rattle.fixed.specs.Items.{items}
use Rattle.format.specs.Readers.{times, rows_behind}
use Rattle.format.proofs.Laws.{times_more, times_stop, times_done}
use Rattle.chart_reader.proofs.row.read_rows.Goals as goal

pub returns-in_err-row : goal.returns-in_err-row
returns-in_err-row g c =
    let p = err_from_is_err_and c.from_residual.result c.from_residual.ensures.1 in
    rw (p.1, p.2) (sym c.loop.invariant.3
    ∙ times_stop g.R.Row.height (g.R.Row.reads c.args.counts) (map g.R.Row.said (items c.loop.rows)) (c.args.count - c.loop.counter)
    c.loop.lines.number c.loop.lines.rest.now _ (omega arith) c.in_err-row.ensures)

pub loop-preserved : goal.loop-preserved
loop-preserved g c =
    let i = c.loop.invariant in
    let before = items c.loop.rows in
    let row = c.in_ok-row.row in
    let pushed = rw c.unwrap.ensures at c.push.ensures in
    let read = c.in_ok-row.ensures in
    let short = g.met.R.Row.short in
    let left = c.args.count - c.loop.counter in
    let less : c.args.count - (c.loop.counter + 1) ≡ left - 1 = omega arith in
    let n = ap length pushed.1 ∙ length_push before row in
    let e = ap (λ xs. map g.R.Row.said xs) pushed.1 ∙ map_push g.R.Row.said before row in
    let p = g.R.Row.reads c.args.counts in (
      omega arith,
      omega arith,
      omega (arith, mul-suc g.R.Row.height c.loop.counter),
      ap₂ (λ xs k. rows_behind xs (times k g.R.Row.height p c.read_row.new.lines.number c.read_row.new.lines.rest.now)) e less
          ∙ ap (λ n. rows_behind (map g.R.Row.said before ++ (g.R.Row.said row ∷ [])) (times (left - 1) g.R.Row.height p n c.read_row.new.lines.rest.now)) read.1
          ∙ times_more g.R.Row.height p (map g.R.Row.said before) left c.loop.lines.number c.loop.lines.rest.now (g.R.Row.said row) c.read_row.new.lines.rest.now (omega arith) read.0
          ∙ i.3,
    )

pub returns : goal.returns
returns g c =
    let i = c.loop.invariant in
    let all : c.loop.counter ≡ c.args.count = omega arith in (
      sym i.3
          ∙ times_done g.R.Row.height (g.R.Row.reads c.args.counts) (map g.R.Row.said (items c.loop.rows)) (c.args.count - c.loop.counter) c.loop.lines.number c.loop.lines.rest.now (omega arith),
      i.2 ∙ ap (λ k. c.args.lines.now.number + g.R.Row.height * k) all,
    )
