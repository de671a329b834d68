use Rattle.chances.specs.Tables.{Follows}
use Rattle.chances.proofs.random.relay.Given as goal

abbrev pub invariant-loop-origin : goal.invariant-loop-origin
invariant-loop-origin l = Follows l.fn.table l.table

abbrev pub invariant-loop-kind : goal.invariant-loop-kind
invariant-loop-kind l = Follows l.fn.table l.table
