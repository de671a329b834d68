use Rattle.script.proofs.Total.{told_or_fault}
use Rattle.script.proofs.laws.each_text_says_something_or_has_a_fault.Goals as goal

pub returns : goal.returns
returns c = told_or_fault
