use Rattle.std.proofs.Common.{take}
use Rattle.std.specs.Fmt.{HasWritten, IsPlainFormatter}
use Rattle.transcripts.proofs.Texts.{behind}
use Rattle.transcripts.proofs.text.TranscriptTextDisplay.fmt.Given as goal

abbrev pub invariant-loop-pair : goal.invariant-loop-pair
invariant-loop-pair g l = IsPlainFormatter l.initial.f → HasWritten g.W.Write.write_str_gives l.initial.f (behind (take l.pair-index l.pair-items)) l.f
