-- `Lines::keyed`: what the prefix leaves is what follows the key. Assumes nothing.
use Rattle.std.proofs.Common.{length, refl, ap, ◌∙◌, arith}
use Rattle.std.proofs.lemmas.Slice.Eq.{strip_prefix_is}
use Rattle.std.proofs.lemmas.Option.{MatchOption-at_none, MatchOption-at_some}
use Rattle.std.proofs.lemmas.Bool.{le-leb}
use Rattle.std.proofs.lemmas.Bool.Decides.{Decides-eqb}
use Rattle.format.specs.Bytes.{after_key}
use Rattle.format.specs.Readers.{measured, keyed}
use Rattle.format.proofs.Cuts.{after_none, after_from}
use Rattle.format.proofs.line.Lines.keyed.Goals as goal

pub returns-in_default-strip_prefix : goal.returns-in_default-strip_prefix
returns-in_default-strip_prefix c =
    let n = c.args.self.now.number in
    let key = c.args.key.now in
    let parts = c.in-Some.parts in
    let t = le-leb (length parts.front.now) 96 (omega arith) in
    let h = MatchOption-at_none _ _ c.in_default-strip_prefix.is (strip_prefix_is Decides-eqb parts.front.now key c.strip_prefix.result c.strip_prefix.ensures.cases) in
    (ap (measured key n) c.in-Some.ensures ∙ (rw t (ap (keyed n parts.rest.now) (after_none key parts.front.now h))), refl)

pub returns : goal.returns
returns c =
    let n = c.args.self.now.number in
    let key = c.args.key.now in
    let parts = c.in-Some.parts in
    let value = c.in-Some-strip_prefix.value in
    let t = le-leb (length parts.front.now) 96 (omega arith) in
    let h = MatchOption-at_some _ _ value c.in-Some-strip_prefix.is (strip_prefix_is Decides-eqb parts.front.now key c.strip_prefix.result c.strip_prefix.ensures.cases) in (
      ap (measured key n) c.in-Some.ensures
          ∙ (rw t (ap (λ s. keyed n parts.rest.now (after_key key s)) h ∙ ap (keyed n parts.rest.now) (after_from key value.now))),
      omega arith,
    )
