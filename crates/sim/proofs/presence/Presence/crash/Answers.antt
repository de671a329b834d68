use Rattle.std.proofs.Common.{◌≡◌, ◌∙◌, sym, subst, ap, Option, Some}
use Rattle.disk.specs.declared.memory.MemDisk.{MemDisk}
use Rattle.disk.specs.Memory.{memory_state}
use Rattle.sim.specs.Words.{Presence, IsPresenceAt, is_liar, disk_in, HasCrashed}
use Rattle.sim.proofs.Moves.{crashed, crash_left}
use Rattle.sim.proofs.presence.Presence.crash.Goals as goal

pub returns-in_ok-crash-in-Some-clause-at : goal.returns-in_ok-crash-in-Some-clause-at
returns-in_ok-crash-in-Some-clause-at c header w at =
    let parts = c.in-Some.ensures.parts header w (subst (λ (x : Presence). IsPresenceAt header w x) (sym c.replace.ensures.value) at) in
    let left = crash_left header (w.journal header.me) (w.doubt header.me) (memory_state c.in-Some.disk) (memory_state c.in_ok-crash-in-Some.field-0) _ parts.1
    c.in_ok-crash-in-Some.ensures.may_leave c.in_ok-crash-in-Some.ensures.state in
    crashed header w c.in_ok-crash-in-Some.field-0 c.in-Some.records.items parts.0 left

pub returns-in-None-clause-side : goal.returns-in-None-clause-side
returns-in-None-clause-side c = ap is_liar c.replace.ensures.after ∙ sym c.in-None.ensures.side ∙ ap is_liar c.replace.ensures.value

pub returns-in-None-clause-at : goal.returns-in-None-clause-at
returns-in-None-clause-at c header w at =
    absurd (c.in-None.ensures.parts header w (subst (λ (x : Presence). IsPresenceAt header w x) (sym c.replace.ensures.value) at))

pub returns-in_ok-crash-in-Some-clause-disk : goal.returns-in_ok-crash-in-Some-clause-disk
returns-in_ok-crash-in-Some-clause-disk c =
    let was : disk_in c.args.self.now ≡ Some c.in-Some.disk = sym (c.in-Some.ensures.disk ∙ ap disk_in c.replace.ensures.value) in
    subst (λ (d : Option MemDisk). HasCrashed c.args.pick d (Some c.in_ok-crash-in-Some.field-0)) (sym was)
    (c.in_ok-crash-in-Some.ensures.state, c.in_ok-crash-in-Some.ensures.fuse)
