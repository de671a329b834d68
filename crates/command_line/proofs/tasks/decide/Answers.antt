use Rattle.std.proofs.Common.{refl, ◌∙◌, ap}
use Rattle.command_line.specs.Usage.{as_u8, as_u16}
use Rattle.command_line.proofs.tasks.decide.Goals as goal

pub returns : goal.returns
returns c =
    let file = c.with_arg-command.ensures _ _ c.named.ensures c.word-file.ensures refl in
    let question = c.with_arg-command-2.ensures _ _ file (c.of_u16.ensures ∙ ap as_u16 c.word-question.ensures) refl in
    let bit = c.with_arg-command-3.ensures _ _ question (c.of_u8.ensures ∙ ap as_u8 c.word-bit.ensures) refl in
    let all = c.with_arg-command-4.ensures _ _ bit c.needed_all.ensures refl in
    let json = c.with_arg-command-5.ensures _ _ all c.json.ensures refl in
    c.with_arg.ensures _ _ json c.option.ensures refl
