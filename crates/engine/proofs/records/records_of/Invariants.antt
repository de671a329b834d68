use Rattle.std.proofs.Common.{length}
use Rattle.engine.proofs.Seven.{ReadRecords}
use Rattle.engine.proofs.records.records_of.Given as goal

abbrev pub invariant-loop-rest : goal.invariant-loop-rest
invariant-loop-rest l = ReadRecords l.bytes l.rest l.records.items

abbrev pub decreases-loop-rest : goal.decreases-loop-rest
decreases-loop-rest l = length l.rest
