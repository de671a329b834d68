use Rattle.std.proofs.Common.{◌≡◌, drop}
use Rattle.sim.specs.Presences.{nth_said}
use Rattle.sim.proofs.presence.statement_at.Given as goal

abbrev pub invariant-loop-item : goal.invariant-loop-item
invariant-loop-item l = nth_said l.records l.fn.number ≡ nth_said (drop l.item-index l.records) l.left
