use Rattle.chances.specs.Tables.{Follows}
use Rattle.chances.proofs.adversary.drain_before.Given as goal

abbrev pub invariant-loop : goal.invariant-loop
invariant-loop l = Follows l.fn.table l.table
