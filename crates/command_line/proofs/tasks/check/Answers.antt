use Rattle.std.proofs.Common.{refl}
use Rattle.command_line.proofs.tasks.check.Goals as goal

pub returns : goal.returns
returns c =
    let settings = c.with_arg-command.ensures _ _ c.named-command.ensures c.word.ensures refl in
    c.with_arg.ensures _ _ settings c.json.ensures refl
