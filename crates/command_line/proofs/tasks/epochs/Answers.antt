use Rattle.std.proofs.Common.{refl}
use Rattle.command_line.proofs.tasks.epochs.Goals as goal

pub returns : goal.returns
returns c =
    let file = c.with_arg-command.ensures _ _ c.named.ensures c.word-file.ensures refl in
    let json = c.with_arg-command-2.ensures _ _ file c.json.ensures refl in
    c.with_arg.ensures _ _ json c.option.ensures refl
