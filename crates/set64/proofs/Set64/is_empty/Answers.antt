-- `Set64::is_empty`: the word with no digit 1 is 0. Assumes nothing.
use Rattle.std.proofs.Common.{sym, ◌∙◌, arith}
use Rattle.std.proofs.lemmas.Bool.Decides.{nat_tests}
use Rattle.set64.specs.Sets.{has}
use Rattle.set64.proofs.Digit.{digit_of, bit_zero, same_word}
use Rattle.set64.proofs.Set64.is_empty.Goals as goal

pub returns : goal.returns
unfolding has
returns c =
    let w = c.args.self.word in (
      λ t m. digit_of m w 0 _ (bit_zero m) (grind (arith, nat_tests)),
      λ h. let zero = same_word w 0 (λ n. h n ∙ sym (bit_zero n)) in grind (arith, nat_tests),
    )
