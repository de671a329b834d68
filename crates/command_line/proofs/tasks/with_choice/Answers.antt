use Rattle.std.proofs.Common.{refl, ◌∙◌, ap}
use Rattle.command_line.specs.Usage.{as_u8, as_u16, as_u32}
use Rattle.command_line.proofs.tasks.with_choice.Goals as goal

pub returns : goal.returns
returns c app is =
    let question = c.with_arg-command.ensures app _ is (c.of_u16.ensures ∙ ap as_u16 c.option-question.ensures) refl in
    let member = c.with_arg-command-2.ensures _ _ question (c.of_u8.ensures ∙ ap as_u8 c.option-member.ensures) refl in
    let from = c.with_arg-command-3.ensures _ _ member (c.of_u32.ensures ∙ ap as_u32 c.option-from.ensures) refl in
    c.with_arg.ensures _ _ from (c.of_u32-2.ensures ∙ ap as_u32 c.option-to.ensures) refl
