-- `reader::read`: the size first, then the text; and the laws on what a text is read as. Assumes nothing.
use Rattle.std.proofs.Common.{length, arith}
use Rattle.std.proofs.lemmas.Bool.{le-leb, lt-leb}
use Rattle.chart_reader.proofs.Exact.{exactly, gives_back, one_text}
use Rattle.chart_reader.proofs.Meanings.{refusals}
use Rattle.chart_reader.proofs.reader.read.Goals as goal

pub returns-then-text-gt-MOST_TEXT_BYTES : goal.returns-then-text-gt-MOST_TEXT_BYTES
returns-then-text-gt-MOST_TEXT_BYTES c =
    let f = lt-leb (length c.args.text.now) 16384 (omega arith) in record { answer = rw f; exact = exactly; back = gives_back; once = one_text; refusals = refusals }

pub returns : goal.returns
returns c =
    let t = le-leb (length c.args.text.now) 16384 (omega arith) in record { answer = rw t c.draw.ensures; exact = exactly; back = gives_back; once = one_text; refusals = refusals }
