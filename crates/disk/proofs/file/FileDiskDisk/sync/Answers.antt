use Rattle.disk.specs.Supposed.Reply.{Synced, Refused}
use Rattle.disk.proofs.Supposed.{next_state}
use Rattle.disk.proofs.file.FileDiskDisk.sync.Goals as goal

pub returns-in-Ok-clause-synced : goal.returns-in-Ok-clause-synced
returns-in-Ok-clause-synced g c so = next_state g.P.Premise.file _ _ Synced c.note.ensures.replies

pub returns-in-Err-clause-failed : goal.returns-in-Err-clause-failed
returns-in-Err-clause-failed g c so = next_state g.P.Premise.file _ _ Refused c.note-in-Err.ensures.replies
