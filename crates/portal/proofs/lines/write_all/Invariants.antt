use Rattle.std.proofs.Common.{◌≤◌, length}
use Rattle.portal.proofs.lines.write_all.Given as goal

-- no more was sent than there is
abbrev pub invariant-loop : goal.invariant-loop
invariant-loop g l = l.sent ≤ length l.bytes
