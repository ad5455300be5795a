-- `value::formed_list`: the elements so far, with what the pieces that are left give, are the answer. Assumes nothing.
use Rattle.std.proofs.Common.{◌≡◌, length, None}
use Rattle.fixed.specs.Items.{items, most, last_of}
use Rattle.format.specs.Bytes.{pieces, elements_of}
use Rattle.format.specs.Elements.{formed}
use Rattle.format.proofs.Lists.{behind_read}
use Rattle.format.proofs.value.formed_list.Given as goal

abbrev pub invariant-loop-parts : goal.invariant-loop-parts
invariant-loop-parts g l =
    behind_read (items l.list) (formed g.E.Element.kind (most g.row.N) (length (items l.list)) (last_of (items l.list)) (pieces l.rest))
    ≡ formed g.E.Element.kind (most g.row.N) 0 None (elements_of l.initial.rest)

abbrev pub decreases-loop-parts : goal.decreases-loop-parts
decreases-loop-parts g l = length l.rest
