use Rattle.script.proofs.Determined.{script_or_fault}
use Rattle.script.proofs.laws.no_script_has_a_fault.Goals as goal

pub returns : goal.returns
returns c = script_or_fault
