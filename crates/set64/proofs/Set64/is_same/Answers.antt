-- `Set64::is_same`: words with the same digits are one word. Assumes nothing.
use Rattle.std.proofs.Common.{ap, arith}
use Rattle.std.proofs.lemmas.Bool.Decides.{nat_tests}
use Rattle.set64.specs.Sets.{has}
use Rattle.set64.specs.declared.Set64.{Set64}
use Rattle.set64.proofs.Alike.{same_set, same_members}
use Rattle.set64.proofs.Set64.is_same.Goals as goal

pub returns-clause-alike : goal.returns-clause-alike
returns-clause-alike c =
    let a = c.args.self in
    let b = c.args.other in (
      λ t n. ap (λ s. has s n) (same_set a b (grind (arith, nat_tests))),
      λ h. let e = ap (λ (s : Set64). s.word) (same_members a b h) in grind (arith, nat_tests),
    )
