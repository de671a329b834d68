use Rattle.std.proofs.Common.{length}
use Rattle.disk.proofs.Placing.{WritesSoFar}
use Rattle.disk.proofs.named.write_whole.Given as goal

abbrev pub invariant-loop-rest : goal.invariant-loop-rest
invariant-loop-rest g l = WritesSoFar (g.F.SystemFile.done l.initial.file) (g.F.SystemFile.done l.file) l.at l.place l.bytes l.rest

abbrev pub decreases-loop-rest : goal.decreases-loop-rest
decreases-loop-rest g l = length l.rest
