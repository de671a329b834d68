use Rattle.std.proofs.Common.{◌≡◌, drop, map}
use Rattle.epochs.specs.Opens.{least}
use Rattle.epochs.proofs.state.least_running.Given as goal

-- the least of those before and of those that are left is that of all
abbrev pub invariant-loop-one : goal.invariant-loop-one
invariant-loop-one l = least l.least (map (λ one. one.epoch) (drop l.one-index l.running)) ≡ least l.first (map (λ one. one.epoch) l.running)
