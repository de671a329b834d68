use Rattle.script.proofs.Determined.{one_first_fault}
use Rattle.script.proofs.laws.no_text_has_two_first_faults.Goals as goal

pub returns : goal.returns
returns c = one_first_fault
