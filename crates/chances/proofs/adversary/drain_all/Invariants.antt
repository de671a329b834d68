use Rattle.chances.specs.Tables.{Follows}
use Rattle.chances.proofs.adversary.drain_all.Given as goal

abbrev pub invariant-loop-from : goal.invariant-loop-from
invariant-loop-from l = Follows l.fn.table l.table

abbrev pub invariant-loop-to : goal.invariant-loop-to
invariant-loop-to l = Follows l.fn.table l.table
