use Rattle.std.proofs.Common.{ℕ, ◌≡◌, ◌<◌, ◌≤◌, ◌++◌, ◌∷◌, [], length}
use Rattle.chances.specs.Links.{queue_to}
use Rattle.chances.proofs.links.add_to_all.Given as goal

-- the queues so far have the statement, the others are as they were
abbrev pub invariant-loop-to : goal.invariant-loop-to
invariant-loop-to l =
    (length l.row.items ≡ length l.fn.row.items)
    × ((to : ℕ) → to < l.to → queue_to l.row.items to ≡ queue_to l.fn.row.items to ++ l.statement ∷ [])
    × ((to : ℕ) → l.to ≤ to → queue_to l.row.items to ≡ queue_to l.fn.row.items to)
