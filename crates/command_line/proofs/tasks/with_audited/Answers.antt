use Rattle.std.proofs.Common.{refl, ◌∙◌, ap}
use Rattle.command_line.specs.Usage.{as_u16}
use Rattle.command_line.proofs.tasks.with_audited.Goals as goal

pub returns : goal.returns
returns c app is =
    let n = c.with_arg-command.ensures app _ is (c.of_u16.ensures ∙ ap as_u16 c.option-n.ensures) refl in
    let t = c.with_arg-command-2.ensures _ _ n (c.of_u16-2.ensures ∙ ap as_u16 c.option-t.ensures) refl in
    c.with_arg.ensures _ _ t (c.of_u16-3.ensures ∙ ap as_u16 c.option-questions.ensures) refl
