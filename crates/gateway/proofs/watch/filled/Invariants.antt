use Rattle.std.proofs.Common.{◌≡◌, ℕ, Bool, List, length, slice_get}
use Rattle.gateway.specs.Watches.{IsKept}
use Rattle.gateway.proofs.watch.filled.Given as goal

-- so many readings are there, and those that were kept have their words
abbrev pub invariant-loop : goal.invariant-loop
invariant-loop l =
    (length l.readings.items ≡ l.counter) × ((place : ℕ) (words : List (ℕ × Bool)) → IsKept l.size (slice_get l.kept place) words →
    IsKept l.size (slice_get l.readings.items place) words)
