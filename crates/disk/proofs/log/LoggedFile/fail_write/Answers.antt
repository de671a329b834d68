-- The file is still what its calls come to.
use Rattle.std.proofs.Common.{sym, ◌∙◌, ap}
use Rattle.disk.specs.Replay.{state_of}
use Rattle.disk.specs.Replay.Call.{Failed}
use Rattle.disk.proofs.Listed.{replayed}
use Rattle.disk.proofs.log.LoggedFile.fail_write.Goals as goal

pub invariant_of-self-2 : goal.invariant_of-self-2
invariant_of-self-2 c =
    replayed c.self.inside.history.value (Failed c.args.at c.args.len) _ _ c.self.invariant c.in_ok-fail_write.ensures.ok ∙ ap state_of (sym c.then.ensures)
