use Rattle.std.proofs.Common.{◌≡◌, max, drop}
use Rattle.chances.specs.Lines.{last_round}
use Rattle.chances.proofs.lines.last_round.Given as goal

-- the last round of those before and of those that are left is that of all
abbrev pub invariant-loop-end : goal.invariant-loop-end
invariant-loop-end l = max l.last (last_round (drop l.end-index l.ends)) ≡ last_round l.ends
