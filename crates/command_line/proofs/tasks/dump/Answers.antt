use Rattle.std.proofs.Common.{refl}
use Rattle.command_line.proofs.tasks.dump.Goals as goal

pub returns : goal.returns
returns c =
    let journal = c.with_arg-command.ensures _ _ c.named-command.ensures c.word.ensures refl in
    let count = c.with_arg-command-2.ensures _ _ journal c.flag.ensures refl in
    c.with_arg.ensures _ _ count c.json.ensures refl
