use Rattle.chances.specs.Tables.{Follows}
use Rattle.chances.proofs.adversary.bring_all.Given as goal

abbrev pub invariant-loop-origin : goal.invariant-loop-origin
invariant-loop-origin l = Follows l.fn.table l.table
