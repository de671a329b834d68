-- The file is still what its calls come to.
use Rattle.std.proofs.Common.{sym, ◌∙◌, ap}
use Rattle.disk.specs.Replay.{state_of}
use Rattle.disk.specs.Replay.Call.{Synced}
use Rattle.disk.proofs.Listed.{replayed}
use Rattle.disk.proofs.log.LoggedFile.do_sync.Goals as goal

pub invariant_of-self : goal.invariant_of-self
invariant_of-self c =
    replayed c.self.inside.history.value Synced _ _ c.self.invariant c.sync.ensures ∙ ap state_of (sym c.then.ensures)
