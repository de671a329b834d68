use Rattle.std.proofs.Common.{◌≡◌, ◌++◌, length, take}
use Rattle.numerals.specs.Lines.{line}
use Rattle.links.specs.Told.{has_written}
use Rattle.transcripts.specs.Lines.{head_line}
use Rattle.desk.proofs.Blocks.{lines}
use Rattle.desk.proofs.writing.write_transcript.Given as goal

abbrev pub invariant-loop-pair : goal.invariant-loop-pair
invariant-loop-pair g l =
    has_written (g.S.Stream.told l.stream) l.held.items
    ≡ has_written (has_written (g.S.Stream.told l.fn.stream) l.fn.held.items)
    (line (head_line l.question l.fn.transcript.bit (length l.fn.transcript.heard.items)) ++ lines (take l.pair-index l.fn.transcript.heard.items))
