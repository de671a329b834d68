use Rattle.disk.specs.Supposed.Reply.{Told, Refused}
use Rattle.disk.proofs.Supposed.{next_state}
use Rattle.disk.proofs.file.FileDiskDisk.len.Goals as goal

pub returns-in-Ok-clause-same : goal.returns-in-Ok-clause-same
returns-in-Ok-clause-same g c so = next_state g.P.Premise.file _ _ (Told c.in-Ok.length) c.note.ensures.replies

pub returns-in-Err-clause-same : goal.returns-in-Err-clause-same
returns-in-Err-clause-same g c so = next_state g.P.Premise.file _ _ Refused c.note-in-Err.ensures.replies
