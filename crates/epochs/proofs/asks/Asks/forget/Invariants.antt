use Rattle.std.proofs.Common.{◌≡◌, ◌-◌, ◌≤◌, length}
use Rattle.epochs.specs.Asks.{standing, stays}
use Rattle.epochs.proofs.Standing.{passed_from}
use Rattle.epochs.proofs.asks.Asks.forget.Given as goal

-- of those behind the place that was looked at last the ones to be forgotten are gone
abbrev pub invariant-loop-done : goal.invariant-loop-done
invariant-loop-done l = record {
  within : l.count - l.done ≤ length l.self.list.items;
  second : l.self.second ≡ l.fn.self.second;
  asks : standing l.self ≡ passed_from (stays l.gone) (l.count - l.done) (standing l.fn.self);
}
