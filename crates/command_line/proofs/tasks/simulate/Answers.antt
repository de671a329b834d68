use Rattle.std.proofs.Common.{refl}
use Rattle.command_line.proofs.tasks.simulate.Goals as goal

pub returns : goal.returns
returns c =
    let script = c.with_arg-command.ensures _ _ c.named-command.ensures c.last_word-script.ensures refl in
    let trace = c.with_arg-command-2.ensures _ _ script c.file.ensures refl in
    let chart = c.with_arg-command-3.ensures _ _ trace c.file-2.ensures refl in
    let page = c.with_arg-command-4.ensures _ _ chart c.file-3.ensures refl in
    c.with_forever.ensures _ (c.with_choice-command.ensures _ page)
