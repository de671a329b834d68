use Rattle.std.proofs.Common.{ℕ, ◌≡◌, ◌<◌, []}
use Rattle.chances.specs.Links.{queue_of}
use Rattle.chances.specs.Tables.{correct_of, links_of}
use Rattle.chances.proofs.table.Table.is_quiet.Given as goal

-- the links of the senders so far have nothing
abbrev pub invariant-loop-from : goal.invariant-loop-from
invariant-loop-from l = (from to : ℕ) → from < l.from → to < correct_of l.self → queue_of (links_of l.self) from to ≡ []

-- nor have those of this one so far
abbrev pub invariant-loop-to : goal.invariant-loop-to
invariant-loop-to l =
    ((from to : ℕ) → from < l.from → to < correct_of l.self → queue_of (links_of l.self) from to ≡ [])
    × ((to : ℕ) → to < l.to → queue_of (links_of l.self) l.from to ≡ [])
