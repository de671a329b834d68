use Rattle.std.proofs.Common.{ℕ, ◌≡◌, ◌<◌, [], length, slice_get}
use Rattle.chances.specs.Links.{queue_in, count_in}
use Rattle.chances.proofs.links.Links.new.Given as goal

-- as many rows as turns, each of so many receivers, and all queues empty
abbrev pub invariant-loop : goal.invariant-loop
invariant-loop l =
    (length l.rows.items ≡ l.counter)
    × ((from : ℕ) → from < l.counter → count_in (slice_get l.rows.items from) ≡ l.receivers)
    × ((from to : ℕ) → queue_in (slice_get l.rows.items from) to ≡ [])
