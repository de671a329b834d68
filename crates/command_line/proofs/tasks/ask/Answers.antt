use Rattle.std.proofs.Common.{refl}
use Rattle.command_line.proofs.tasks.ask.Goals as goal

pub returns : goal.returns
returns c =
    let desk = c.with_desk-command.ensures _ c.named.ensures in
    let all = c.with_arg-command.ensures _ _ desk c.all.ensures refl in
    let wait = c.with_arg-command-2.ensures _ _ all c.flag.ensures refl in
    let json = c.with_arg-command-3.ensures _ _ wait c.json.ensures refl in
    c.with_timeout.ensures _ json
