use Rattle.std.proofs.Common.{ℕ, ◌+◌, ◌^◌, ◌≡◌, ◌<◌, ◌≤◌, get_or}
use Rattle.report.specs.Charts.{place_after}
use Rattle.report.proofs.chart.column.move_links.Given as goal

-- the links from the senders so far are moved, and the others are where they were
abbrev pub invariant-loop-sender : goal.invariant-loop-sender
invariant-loop-sender l =
    ((a : ℕ) → a < l.sender → get_or l.initial.places a 0 + 1 < 2 ^ 64
    → get_or l.places a 0 ≡ place_after l.said l.event l.mark a (get_or l.initial.places a 0))
    × ((a : ℕ) → l.sender ≤ a → get_or l.places a 0 ≡ get_or l.initial.places a 0)
