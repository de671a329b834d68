use Rattle.std.proofs.Common.{◌≡◌}
use Rattle.node.proofs.hub.Hub.status_for.Given as goal

abbrev pub invariant-loop : goal.invariant-loop
invariant-loop g l = l.pass ≡ l.initial.pass
