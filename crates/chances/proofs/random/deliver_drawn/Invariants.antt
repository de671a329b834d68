use Rattle.chances.specs.Tables.{Follows}
use Rattle.chances.proofs.random.deliver_drawn.Given as goal

abbrev pub invariant-loop : goal.invariant-loop
invariant-loop l = Follows l.fn.table l.table
