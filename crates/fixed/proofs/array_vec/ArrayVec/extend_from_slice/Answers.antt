-- `ArrayVec::extend_from_slice`: as much as fits stands behind the items. Assumes nothing.
use Rattle.std.proofs.Common.{rules, ◌≡◌, ◌++◌, ◌+◌, ◌-◌, length, take, ap, ◌∙◌, arith}
use Rattle.std.proofs.lemmas.List.{length-take}
use Rattle.std.proofs.lemmas.Slice.{take-put_mid}
use Rattle.fixed.specs.Items.{items, most}
use Rattle.fixed.proofs.Fills.{cut_within, fill_all}
use Rattle.fixed.proofs.array_vec.ArrayVec.extend_from_slice.Goals as goal

pub returns : goal.returns
returns g c =
    let places = c.args.self.now.places in
    let fitting = take c.min-2.result c.args.more.now in
    let all : length places ≡ g.row.N = search rules in
    let n = length-take c.args.self.now.len places in
    let front : take c.len-len.result places ≡ items c.args.self.now = cut_within places c.len-len.result c.args.self.now.len (omega arith) in
    take-put_mid c.len-len.result (c.len-len.result + length fitting - c.len-len.result) places c.copy_from_slice.new.self (c.len-len.result + length fitting) (omega arith) (omega arith)
    ∙ ap (λ xs. xs ++ c.copy_from_slice.new.self) front
    ∙ ap (λ ys. items c.args.self.now ++ ys) c.copy_from_slice.ensures.after
    ∙ fill_all (most g.row.N) (items c.args.self.now) c.args.more.now c.min-2.result (omega arith) (omega arith)
