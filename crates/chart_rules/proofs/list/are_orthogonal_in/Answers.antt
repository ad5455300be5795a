-- `list::are_orthogonal_in`: one test after the other. Assumes nothing.
use Rattle.std.proofs.Common.{arith}
use Rattle.set64.proofs.Alike.{below_64}
use Rattle.chart_rules.proofs.list.are_orthogonal_in.Goals as goal

pub returns-then-are_in : goal.returns-then-are_in
returns-then-are_in c rooted =
    let only = c.are_in.ensures.0 c.if-are_in.true in
    let spread = c.are_orthogonal.ensures rooted (λ v m. below_64 c.args.set v (omega arith) (only v m)) in
    ((λ on. (only, spread.0 on)), λ x. spread.1 x.1)
