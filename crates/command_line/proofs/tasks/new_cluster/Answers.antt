use Rattle.std.proofs.Common.{refl, ◌∙◌, ap}
use Rattle.command_line.specs.Usage.{as_u16, as_u32}
use Rattle.command_line.proofs.tasks.new_cluster.Goals as goal

pub returns : goal.returns
returns c =
    let size = c.with_size-command.ensures _ c.named.ensures in
    let cluster = c.with_arg-command.ensures _ _ size (c.of_u32.ensures ∙ ap as_u32 c.number-cluster.ensures) refl in
    let folder = c.with_arg-command-2.ensures _ _ cluster c.word-folder.ensures refl in
    let hosts = c.with_arg-command-3.ensures _ _ folder c.last_word-hosts.ensures refl in
    let port = c.with_arg-command-4.ensures _ _ hosts (c.of_u16.ensures ∙ ap as_u16 c.option-port.ensures) refl in
    let desk = c.with_arg-command-5.ensures _ _ port c.option-desk.ensures refl in
    c.with_arg.ensures _ _ desk c.flag.ensures refl
