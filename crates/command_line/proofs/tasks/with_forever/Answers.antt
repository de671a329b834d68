use Rattle.std.proofs.Common.{refl, ◌∙◌, ap}
use Rattle.command_line.specs.Usage.{as_u32}
use Rattle.command_line.proofs.tasks.with_forever.Goals as goal

pub returns : goal.returns
returns c app is =
    let forever = c.with_arg-command.ensures app _ is c.flag.ensures refl in
    let seed = c.with_arg-command-2.ensures _ _ forever (c.of_u32.ensures ∙ ap as_u32 c.option-seed.ensures) refl in
    c.with_arg.ensures _ _ seed (c.of_u32-2.ensures ∙ ap as_u32 c.option-seconds.ensures) refl
