-- `Name::fmt`: one byte more. Assumes nothing.
use Rattle.std.proofs.Common.{◌≡◌, ℕ, ◌+◌, ◌<◌, List, [], ◌∷◌, ◌++◌, length, get_or, take, encode_utf8, encode_utf8_all, sym, ap, ◌∙◌, append-nil, rules}
use Rattle.std.proofs.Output.{has_written_append, has_written_of_eq}
use Rattle.std.proofs.lemmas.List.{take_more}
use Rattle.std.proofs.lemmas.Str.{encodes-append}
use Rattle.chart.proofs.name.NameDisplay.fmt.Goals as goal

one_more : (xs : List ℕ) (i : ℕ) → i < length xs → encode_utf8_all (take i xs) ++ encode_utf8 (get_or xs i 0) ≡ encode_utf8_all (take (i + 1) xs)
one_more xs i h =
    ap (λ t. encode_utf8_all (take i xs) ++ t) (sym (append-nil (encode_utf8 (get_or xs i 0))))
    ∙ sym (encodes-append (take i xs) (get_or xs i 0 ∷ [])) ∙ ap encode_utf8_all (sym (take_more xs i 0 h))

pub loop-byte-preserved : goal.loop-byte-preserved
loop-byte-preserved g c =
    λ plain.
    has_written_of_eq _ _ _ _ _ (one_more c.as_slice-bytes.result.now c.loop-byte.byte-index c.loop-byte-test.true)
    (has_written_append _ _ _ _ _ _ (c.loop-byte.invariant plain) (search rules))
