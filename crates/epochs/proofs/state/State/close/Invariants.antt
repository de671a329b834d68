use Rattle.std.proofs.Common.{◌≡◌, length}
use Rattle.epochs.specs.Reports.{running_elsewhere}
use Rattle.epochs.proofs.state.State.close.Given as goal

-- those of other epochs are the same
abbrev pub invariant-loop-ended : goal.invariant-loop-ended
invariant-loop-ended g l = record {
  others : running_elsewhere l.epoch l.self.running.items ≡ running_elsewhere l.epoch l.fn.self.running.items;
  rest : l.self ≡ record l.fn.self { running = l.self.running };
}

abbrev pub decreases-loop-ended : goal.decreases-loop-ended
decreases-loop-ended g l = length l.self.running.items
