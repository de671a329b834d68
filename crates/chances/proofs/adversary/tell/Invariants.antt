use Rattle.chances.specs.Tables.{Follows}
use Rattle.chances.proofs.adversary.tell.Given as goal

abbrev pub invariant-loop-liar : goal.invariant-loop-liar
invariant-loop-liar l = Follows l.fn.table l.table
