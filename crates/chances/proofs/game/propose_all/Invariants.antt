use Rattle.std.proofs.Common.{◌≡◌}
use Rattle.chances.specs.Tables.{HaveProposed, correct_of}
use Rattle.chances.proofs.game.propose_all.Given as goal

-- the members so far have proposed
abbrev pub invariant-loop-member : goal.invariant-loop-member
invariant-loop-member l = HaveProposed l.member l.fn.table l.table × (correct_of l.table ≡ correct_of l.fn.table)
