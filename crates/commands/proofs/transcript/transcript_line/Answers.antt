use Rattle.std.proofs.Common.{append_assoc}
use Rattle.report.proofs.Wording.{written_as}
use Rattle.commands.proofs.transcript.transcript_line.Goals as goal

pub returns : goal.returns
returns c = written_as c.format.result _ _ (simp append_assoc) c.format.ensures.ok
