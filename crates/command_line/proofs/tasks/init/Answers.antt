use Rattle.std.proofs.Common.{refl}
use Rattle.command_line.proofs.tasks.init.Goals as goal

pub returns : goal.returns
returns c = c.with_arg.ensures _ _ c.named-command.ensures c.word.ensures refl
