use Rattle.std.proofs.Common.{ℕ, ◌≡◌, ◌⊎◌}
use Rattle.std.specs.List.{Contains}
use Rattle.epochs.specs.Parking.{WaitOn}
use Rattle.epochs.proofs.state.State.park_all.Given as goal

-- those that wait for other epochs are the same, and none but this one is called
abbrev pub invariant-loop-client : goal.invariant-loop-client
invariant-loop-client l = record {
  waiting : WaitOn l.epoch l.fn.self.parked.items l.self.parked.items;
  undone : (one : ℕ) → Contains l.fn.self.undone.items one → Contains l.self.undone.items one;
  only : (one : ℕ) → Contains l.self.undone.items one → Contains l.fn.self.undone.items one ⊎ (one ≡ l.epoch);
  rest : l.self ≡ record l.fn.self { changes = l.self.changes; undone = l.self.undone; parked = l.self.parked };
}
