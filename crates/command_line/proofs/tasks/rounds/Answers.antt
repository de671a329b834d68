use Rattle.std.proofs.Common.{refl, ◌∙◌, ap}
use Rattle.command_line.specs.Usage.{as_u16, as_u32}
use Rattle.command_line.proofs.tasks.rounds.Goals as goal

pub returns : goal.returns
returns c =
    let n = c.with_arg-command.ensures _ _ c.named.ensures (c.of_u16.ensures ∙ ap as_u16 c.number-n.ensures) refl in
    let t = c.with_arg-command-2.ensures _ _ n (c.of_u16-2.ensures ∙ ap as_u16 c.number-t.ensures) refl in
    let liars = c.with_arg-command-3.ensures _ _ t (c.of_u16-3.ensures ∙ ap as_u16 c.option-liars.ensures) refl in
    let order = c.with_arg-command-4.ensures _ _ liars c.option-order.ensures refl in
    let seeds = c.with_arg-command-5.ensures _ _ order (c.of_u32.ensures ∙ ap as_u32 c.option-seeds.ensures) refl in
    c.with_arg.ensures _ _ seeds c.file.ensures refl
