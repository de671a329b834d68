use Rattle.std.proofs.Common.{refl, ◌∙◌, ap}
use Rattle.command_line.specs.Usage.{as_u16}
use Rattle.command_line.proofs.tasks.with_desk.Goals as goal

pub returns : goal.returns
returns c app is =
    let address = c.with_arg-command.ensures app _ is c.address.ensures refl in
    c.with_arg.ensures _ _ address (c.of_u16.ensures ∙ ap as_u16 c.word-question.ensures) refl
