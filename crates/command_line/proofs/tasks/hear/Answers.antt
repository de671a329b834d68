use Rattle.std.proofs.Common.{refl, ◌∙◌, ap}
use Rattle.command_line.specs.Usage.{as_u8}
use Rattle.command_line.proofs.tasks.hear.Goals as goal

pub returns : goal.returns
returns c =
    let size = c.with_size-command.ensures _ c.named.ensures in
    c.with_arg.ensures _ _ size (c.of_u8.ensures ∙ ap as_u8 c.number-me.ensures) refl
