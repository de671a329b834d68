use Rattle.chances.specs.Tables.{Follows}
use Rattle.chances.proofs.adversary.bring_initial.Given as goal

abbrev pub invariant-loop-way : goal.invariant-loop-way
invariant-loop-way l = Follows l.fn.table l.table
