use Rattle.std.proofs.Common.{ℕ, ◌≡◌, [], length}
use Rattle.chances.specs.Links.{queue_to}
use Rattle.chances.proofs.table.empty_lists.Given as goal

-- as many lists as turns, all empty
abbrev pub invariant-loop : goal.invariant-loop
invariant-loop l = (length l.lists.items ≡ l.counter) × ((member : ℕ) → queue_to l.lists.items member ≡ [])
