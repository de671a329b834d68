use Rattle.std.proofs.Common.{ℕ, ◌≡◌, ◌<◌, ◌≤◌, length}
use Rattle.running.specs.Slots.{clients_let_in, shut, slot_at, unused}
use Rattle.running.proofs.slots.Slots.new.Given as goal

-- those before the first that is shut are as they were, and from there on each that was passed is shut
abbrev pub invariant-loop-at : goal.invariant-loop-at
invariant-loop-at l =
    (length l.slots ≡ 32) × (clients_let_in l.clients ≤ l.at)
    × ((k : ℕ) → k < clients_let_in l.clients → slot_at l.slots k ≡ unused)
    × ((k : ℕ) → clients_let_in l.clients ≤ k → k < l.at → slot_at l.slots k ≡ shut)
