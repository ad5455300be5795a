-- `Set64::contains`: what is shifted to the end is digit n, and the word has no digit above 63. Assumes nothing.
use Rattle.std.proofs.Common.{sym, ◌∙◌, arith}
use Rattle.std.proofs.lemmas.Nat.Bits.{shr_and_one}
use Rattle.std.proofs.lemmas.Bool.{le-ltb}
use Rattle.std.proofs.lemmas.Bool.Decides.{nat_tests}
use Rattle.set64.specs.Sets.{has}
use Rattle.set64.proofs.Alike.{below_64}
use Rattle.set64.proofs.Digit.{bit_is, bit_past}
use Rattle.set64.proofs.Set64.contains.Goals as goal

pub returns-then-n-lt64 : goal.returns-then-n-lt64
unfolding has
returns-then-n-lt64 c =
    let w = c.args.self.word in
    let last = shr_and_one w c.args.n in
    let digit = bit_is c.args.n w in
    record { value = grind (arith, nat_tests); small = λ m. below_64 c.args.self m (omega arith) }

pub returns-else-n-lt64 : goal.returns-else-n-lt64
unfolding has
returns-else-n-lt64 c =
    record {
      value = le-ltb c.args.n 64 (omega arith) ∙ sym (bit_past 64 c.args.n c.args.self.word (omega arith) (omega arith));
      small = λ m. below_64 c.args.self m (omega arith);
    }
