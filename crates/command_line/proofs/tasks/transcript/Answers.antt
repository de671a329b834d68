use Rattle.std.proofs.Common.{refl}
use Rattle.command_line.proofs.tasks.transcript.Goals as goal

pub returns : goal.returns
returns c =
    let desk = c.with_desk-command.ensures _ c.named.ensures in
    c.with_timeout.ensures _ (c.with_arg-command.ensures _ _ desk c.all.ensures refl)
