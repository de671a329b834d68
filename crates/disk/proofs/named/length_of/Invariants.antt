use Rattle.std.proofs.Common.{◌≡◌}
use Rattle.disk.proofs.named.length_of.Given as goal

abbrev pub invariant-loop : goal.invariant-loop
invariant-loop g l = g.F.SystemFile.done l.file ≡ g.F.SystemFile.done l.initial.file
