use Rattle.std.proofs.Common.{◌≡◌, length}
use Rattle.epochs.specs.Parking.{waiting_elsewhere}
use Rattle.epochs.proofs.state.State.unpark.Given as goal

-- those that wait for other epochs are the same
abbrev pub invariant-loop-one : goal.invariant-loop-one
invariant-loop-one g l = record {
  others : waiting_elsewhere l.epoch l.self.parked.items ≡ waiting_elsewhere l.epoch l.fn.self.parked.items;
  rest : l.self ≡ record l.fn.self { parked = l.self.parked };
}

abbrev pub decreases-loop-one : goal.decreases-loop-one
decreases-loop-one g l = length l.self.parked.items
