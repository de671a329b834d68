use Rattle.script.proofs.Exact.{one_step}
use Rattle.script.proofs.laws.no_line_says_two_things.Goals as goal

pub returns : goal.returns
returns c = one_step
