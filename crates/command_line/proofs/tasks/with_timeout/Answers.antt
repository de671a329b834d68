use Rattle.std.proofs.Common.{refl}
use Rattle.command_line.proofs.tasks.with_timeout.Goals as goal

pub returns : goal.returns
returns c app is = c.with_arg.ensures app _ is c.option.ensures refl
