-- No place before the first so far is in a range so far.
use Rattle.std.proofs.Common.{◌≡◌, ◌≤◌, ◌<◌, ℕ, drop}
use Rattle.disk.specs.Model.{is_touched}
use Rattle.disk.proofs.crash.first_place.Given as goal

abbrev pub invariant-loop-at : goal.invariant-loop-at
invariant-loop-at l = (l.first ≤ l.synced) × ((k : ℕ) → k < l.first → is_touched k (drop l.at-index l.written) ≡ is_touched k l.written)
