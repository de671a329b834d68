use Rattle.std.proofs.Common.{length}
use Rattle.engine.proofs.Seven.{ReadStatements}
use Rattle.engine.proofs.frames.statements_of.Given as goal

abbrev pub invariant-loop-rest : goal.invariant-loop-rest
invariant-loop-rest l = ReadStatements l.bytes l.rest l.all.items

abbrev pub decreases-loop-rest : goal.decreases-loop-rest
decreases-loop-rest l = length l.rest
