use Rattle.std.proofs.Common.{refl}
use Rattle.command_line.proofs.tasks.run.Goals as goal

pub returns : goal.returns
returns c =
    let settings = c.with_arg-command.ensures _ _ c.named-command.ensures c.word.ensures refl in
    let stay = c.with_arg-command-2.ensures _ _ settings c.flag.ensures refl in
    let log = c.with_arg-command-3.ensures _ _ stay c.flag-2.ensures refl in
    let log_json = c.with_arg-command-4.ensures _ _ log c.flag-3.ensures refl in
    c.with_arg.ensures _ _ log_json c.flag-4.ensures refl
