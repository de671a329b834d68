-- The file is still what its calls come to.
use Rattle.std.proofs.Common.{sym, ◌∙◌, ap}
use Rattle.disk.specs.Replay.{state_of}
use Rattle.disk.specs.Replay.Call.{Wrote}
use Rattle.disk.proofs.Listed.{replayed}
use Rattle.disk.proofs.log.LoggedFile.do_write.Goals as goal

pub invariant_of-self-2 : goal.invariant_of-self-2
invariant_of-self-2 c =
    replayed c.self.inside.history.value (Wrote c.args.at c.args.bytes.now) _ _ c.self.invariant c.in_ok-write.ensures.ok ∙ ap state_of (sym c.then.ensures)
