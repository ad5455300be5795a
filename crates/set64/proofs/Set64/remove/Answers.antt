-- `Set64::remove`: `1 << n` has the one digit n, and a number above 63 is no member to begin with. Assumes nothing.
use Rattle.std.proofs.Common.{◌*◌, ◌%◌, ◌^◌, not, ◌&&◌, ap, ◌∙◌, arith}
use Rattle.set64.specs.Sets.{bit, has}
use Rattle.set64.proofs.Digit.{digit_of, without_bit, shifted_bit, absent_bit, bit_past}
use Rattle.set64.proofs.Set64.remove.Goals as goal

pub returns-then-n-lt64 : goal.returns-then-n-lt64
unfolding has
returns-then-n-lt64 c m =
    let w = c.args.self.word in
    let n = c.args.n in
    let one = ap (λ x. bit m w && not x) (shifted_bit m n c.if-n-lt64.true) in
    digit_of m _ _ _ (without_bit m w ((1 * 2 ^ n) % 2 ^ 64) (omega arith) (omega arith) ∙ one) (omega arith)

pub returns-else-n-lt64 : goal.returns-else-n-lt64
unfolding has
returns-else-n-lt64 c m = absent_bit c.args.self.word m c.args.n (bit_past 64 c.args.n c.args.self.word (omega arith) c.if-n-lt64.false)
