-- `Name::read`: a name of at most 16 bytes is kept whole. Assumes nothing.
use Rattle.std.proofs.Common.{◌++◌, length, take, Ok, sym, ap, ◌∙◌, arith}
use Rattle.std.proofs.lemmas.List.{take_all}
use Rattle.std.proofs.lemmas.Bool.{le-leb}
use Rattle.chart.proofs.name.NameValue.read.Goals as goal

pub returns-then-is_plain : goal.returns-then-is_plain
returns-then-is_plain c =
    let v = c.args.value.now in
    let a = le-leb 1 (length v) (omega arith) in
    let b = le-leb (length v) 16 (omega arith) in
    let p = sym c.if-is_plain.ensures in
    ap (λ xs. Ok xs) (c.extend_from_slice.ensures ∙ ap (λ xs. take 16 (xs ++ v)) c.new-bytes.ensures ∙ take_all 16 v (omega arith)) ∙ sym (rw (a, b, p))
