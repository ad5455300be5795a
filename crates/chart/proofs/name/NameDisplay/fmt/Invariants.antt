-- `Name::fmt`: the bytes so far are written. Assumes nothing.
use Rattle.std.proofs.Common.{take, encode_utf8_all}
use Rattle.std.specs.Fmt.{HasWritten, IsPlainFormatter}
use Rattle.chart.proofs.name.NameDisplay.fmt.Given as goal

abbrev pub invariant-loop-byte : goal.invariant-loop-byte
invariant-loop-byte g l =
    IsPlainFormatter l.fn.f → HasWritten g.W.Write.write_str_gives l.fn.f (encode_utf8_all (take l.byte-index l.bytes)) l.f
