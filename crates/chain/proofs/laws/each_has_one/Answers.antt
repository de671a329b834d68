use Rattle.chain.proofs.Numbering.{one_slot}
use Rattle.chain.proofs.laws.each_has_one.Goals as goal

pub returns-clause-slot : goal.returns-clause-slot
returns-clause-slot c = one_slot
