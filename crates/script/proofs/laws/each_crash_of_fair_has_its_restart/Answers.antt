use Rattle.script.proofs.Troubles.{restart_follows}
use Rattle.script.proofs.laws.each_crash_of_fair_has_its_restart.Goals as goal

pub returns : goal.returns
returns c = restart_follows
