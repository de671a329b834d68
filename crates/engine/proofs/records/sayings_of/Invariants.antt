use Rattle.std.proofs.Common.{length}
use Rattle.engine.proofs.Seven.{ReadSayings}
use Rattle.engine.proofs.records.sayings_of.Given as goal

abbrev pub invariant-loop-rest : goal.invariant-loop-rest
invariant-loop-rest l = ReadSayings l.bytes l.rest l.sayings.items

abbrev pub decreases-loop-rest : goal.decreases-loop-rest
decreases-loop-rest l = length l.rest
