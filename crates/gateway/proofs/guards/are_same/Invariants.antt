use Rattle.std.proofs.Common.{◌≡◌, ◌↔◌, IsTrue, drop, length}
use Rattle.gateway.proofs.guards.are_same.Given as goal

-- the texts are the same exactly if those before this place are, and those from it on
abbrev pub invariant-loop-at : goal.invariant-loop-at
invariant-loop-at l =
    (length l.fn.one ≡ length l.fn.other) × ((IsTrue l.same × (drop l.at l.fn.one ≡ drop l.at l.fn.other)) ↔ (l.fn.one ≡ l.fn.other))
