use Rattle.disk.specs.Supposed.Reply.{Gave, Refused}
use Rattle.disk.proofs.Supposed.{next_state}
use Rattle.disk.proofs.file.FileDiskDisk.read_at.Goals as goal

pub returns-in-Ok-clause-same : goal.returns-in-Ok-clause-same
returns-in-Ok-clause-same g c so = next_state g.P.Premise.file _ _ (Gave c.args.at _) c.note.ensures.replies

pub returns-in-Err-clause-same : goal.returns-in-Err-clause-same
returns-in-Err-clause-same g c so = next_state g.P.Premise.file _ _ Refused c.note-in-Err.ensures.replies
