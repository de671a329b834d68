use Rattle.script.proofs.Determined.{one_script}
use Rattle.script.proofs.laws.no_text_says_two_scripts.Goals as goal

pub returns : goal.returns
returns c = one_script
