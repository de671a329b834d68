use Rattle.std.proofs.Common.{length, ◌-◌}
use Rattle.disk.proofs.Placing.{ReadsSoFar}
use Rattle.disk.proofs.named.read_whole.Given as goal

abbrev pub invariant-loop-done : goal.invariant-loop-done
invariant-loop-done g l = ReadsSoFar (g.F.SystemFile.done l.initial.file) (g.F.SystemFile.done l.file) l.at l.done l.buf

abbrev pub decreases-loop-done : goal.decreases-loop-done
decreases-loop-done g l = length l.initial.buf - l.done
