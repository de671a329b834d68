use Rattle.running.proofs.Tables.{empty_is_table}
use Rattle.running.proofs.refusals.Refusals.new.Goals as goal

pub invariant_of-result : goal.invariant_of-result
invariant_of-result c = empty_is_table
