-- The file that is left is one that the crash may leave.
use Rattle.std.proofs.Common.{List, ℕ, sym, ◌∙◌, ap, subst}
use Rattle.disk.specs.Model.{MayLeave}
use Rattle.disk.specs.Replay.{FilePast, state_of}
use Rattle.disk.specs.Laws.{may_leave_seen}
use Rattle.disk.specs.Memory.{memory_state}
use Rattle.disk.proofs.Left.{left_may_leave}
use Rattle.disk.proofs.memory.MemDisk.crash.Goals as goal

pub returns-clause-may_leave : goal.returns-clause-may_leave
returns-clause-may_leave c =
    let disk = c.args.self in
    let seen = ap (λ (past : FilePast). (state_of past).seen) (c.of_log.ensures.log ∙ c.crash.ensures) in
    subst (λ (file : List ℕ). MayLeave (memory_state disk) file) (sym seen) (left_may_leave (memory_state disk) c.args.pick (may_leave_seen disk.log.start disk.log.calls))
