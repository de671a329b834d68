use Rattle.std.proofs.Common.{◌≡◌, drop}
use Rattle.epochs.specs.Opens.{least}
use Rattle.epochs.proofs.state.least_of.Given as goal

-- the least of those before and of those that are left is that of all
abbrev pub invariant-loop-epoch : goal.invariant-loop-epoch
invariant-loop-epoch l = least l.least (drop l.epoch-index l.epochs) ≡ least l.first l.epochs
