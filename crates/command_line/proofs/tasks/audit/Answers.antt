use Rattle.std.proofs.Common.{refl, ◌∙◌, ap}
use Rattle.command_line.specs.Usage.{as_u16}
use Rattle.command_line.proofs.tasks.audit.Goals as goal

pub returns : goal.returns
returns c =
    let file = c.with_arg-command.ensures _ _ c.named.ensures c.word-file.ensures refl in
    let question = c.with_arg-command-2.ensures _ _ file (c.of_u16.ensures ∙ ap as_u16 c.last_word-question.ensures) refl in
    let all = c.with_arg-command-3.ensures _ _ question c.all.ensures refl in
    c.with_timeout.ensures _ (c.with_audited-command.ensures _ all)
