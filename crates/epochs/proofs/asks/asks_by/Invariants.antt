use Rattle.std.proofs.Common.{◌≡◌, ◌+◌, ◌≤◌, drop}
use Rattle.epochs.specs.Asking.{asks_by}
use Rattle.epochs.proofs.asks.asks_by.Given as goal

-- those counted and those that are left are all
abbrev pub invariant-loop-one : goal.invariant-loop-one
invariant-loop-one l = (l.count ≤ l.one-index) × (l.count + asks_by (drop l.one-index l.asks) l.peer ≡ asks_by l.asks l.peer)
