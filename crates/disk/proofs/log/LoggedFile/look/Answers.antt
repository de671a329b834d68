-- The file is still what its calls come to.
use Rattle.std.proofs.Common.{refl, sym, ◌∙◌, ap}
use Rattle.disk.specs.Replay.{state_of}
use Rattle.disk.specs.Replay.Call.{Still}
use Rattle.disk.proofs.Listed.{replayed}
use Rattle.disk.proofs.log.LoggedFile.look.Goals as goal

pub invariant_of-self : goal.invariant_of-self
invariant_of-self c =
    replayed c.self.inside.history.value Still _ _ c.self.invariant refl ∙ ap state_of (sym c.then.ensures)
