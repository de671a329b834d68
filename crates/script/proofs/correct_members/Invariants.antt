use Rattle.std.proofs.Common.{◌≡◌}
use Rattle.script.specs.Making.{correct_below}
use Rattle.script.proofs.correct_members.Given as goal

-- those below the counter are found
abbrev pub invariant-loop-member : goal.invariant-loop-member
invariant-loop-member l = l.correct.items ≡ correct_below l.member-counter l.liars
