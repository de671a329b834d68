use Rattle.std.proofs.Common.{refl, ◌∙◌, ap}
use Rattle.command_line.specs.Usage.{as_u8}
use Rattle.command_line.proofs.tasks.propose.Goals as goal

pub returns : goal.returns
returns c =
    let desk = c.with_desk-command.ensures _ c.named.ensures in
    let bit = c.with_arg-command.ensures _ _ desk (c.of_u8.ensures ∙ ap as_u8 c.word-bit.ensures) refl in
    let all = c.with_arg-command-2.ensures _ _ bit c.all.ensures refl in
    c.with_timeout.ensures _ all
