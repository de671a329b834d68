use Rattle.chances.specs.Tables.{Follows}
use Rattle.chances.proofs.adversary.play_step.Given as goal

abbrev pub invariant-loop-kind : goal.invariant-loop-kind
invariant-loop-kind l = Follows l.fn.table l.table

abbrev pub invariant-loop-to : goal.invariant-loop-to
invariant-loop-to l = Follows l.fn.table l.table
