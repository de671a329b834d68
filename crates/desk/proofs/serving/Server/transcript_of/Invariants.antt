use Rattle.std.proofs.Common.{◌≡◌}
use Rattle.desk.proofs.serving.Server.transcript_of.Given as goal

abbrev pub invariant-loop : goal.invariant-loop
invariant-loop g l = l.pass ≡ l.initial.pass
