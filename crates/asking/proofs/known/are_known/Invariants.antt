use Rattle.std.proofs.Common.{ℕ, ◌≡◌, ◌<◌, true}
use Rattle.asking.specs.Marks.{is_marked}
use Rattle.asking.proofs.known.are_known.Given as goal

-- something is known of each member so far
abbrev pub invariant-loop-member : goal.invariant-loop-member
invariant-loop-member l = (member : ℕ) → member < l.member → is_marked l.known member ≡ true
