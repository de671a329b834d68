use Rattle.std.proofs.Common.{refl}
use Rattle.command_line.proofs.tasks.gateway.Goals as goal

pub returns : goal.returns
returns c =
    let file = c.with_arg-command.ensures _ _ c.named.ensures c.word-file.ensures refl in
    let listen = c.with_arg-command-2.ensures _ _ file c.option-listen.ensures refl in
    c.with_arg.ensures _ _ listen c.option-token.ensures refl
