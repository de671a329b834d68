use Rattle.std.proofs.Common.{inr}
use Rattle.disk.specs.Supposed.Reply.{Wrote}
use Rattle.disk.proofs.Supposed.{next_state, next_torn}
use Rattle.disk.proofs.file.FileDiskDisk.write_at.Goals as goal

pub returns-in-Ok-clause-written : goal.returns-in-Ok-clause-written
returns-in-Ok-clause-written g c so = next_state g.P.Premise.file _ _ (Wrote c.args.at c.args.bytes.now) c.note.ensures.replies

pub returns-in-Err-clause-torn : goal.returns-in-Err-clause-torn
returns-in-Err-clause-torn g c so = inr (next_torn g.P.Premise.file _ _ c.args.at _ c.note-in-Err.ensures.replies)
