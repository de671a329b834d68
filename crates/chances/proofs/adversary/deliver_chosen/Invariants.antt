use Rattle.chances.specs.Tables.{Follows}
use Rattle.chances.proofs.adversary.deliver_chosen.Given as goal

abbrev pub invariant-loop-step : goal.invariant-loop-step
invariant-loop-step l = Follows l.fn.table l.table
