use Rattle.std.proofs.Common.{ℕ, ◌≡◌, [], length}
use Rattle.chances.specs.Links.{queue_to}
use Rattle.chances.proofs.links.empty_row.Given as goal

-- as many queues as turns, all empty
abbrev pub invariant-loop : goal.invariant-loop
invariant-loop l = (length l.row.items ≡ l.counter) × ((to : ℕ) → queue_to l.row.items to ≡ [])
