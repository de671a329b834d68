use Rattle.std.proofs.Common.{ℕ, ◌≡◌, ◌⊎◌, length}
use Rattle.std.specs.List.{Contains}
use Rattle.epochs.specs.Parking.{WaitOn}
use Rattle.epochs.specs.Reports.{running_elsewhere}
use Rattle.epochs.proofs.state.State.suspend.Given as goal

-- those of other epochs are the same
abbrev pub invariant-loop-ended : goal.invariant-loop-ended
invariant-loop-ended g l = record {
  others : running_elsewhere l.epoch l.self.running.items ≡ running_elsewhere l.epoch l.fn.self.running.items;
  waiting : WaitOn l.epoch l.fn.self.parked.items l.self.parked.items;
  undone : (one : ℕ) → Contains l.fn.self.undone.items one → Contains l.self.undone.items one;
  only : (one : ℕ) → Contains l.self.undone.items one → Contains l.fn.self.undone.items one ⊎ (one ≡ l.epoch);
  rest : l.self ≡ record l.fn.self { changes = l.self.changes; running = l.self.running; undone = l.self.undone; parked = l.self.parked };
}

abbrev pub decreases-loop-ended : goal.decreases-loop-ended
decreases-loop-ended g l = length l.self.running.items
