use Rattle.std.proofs.Common.{◌≡◌, max, drop}
use Rattle.chances.specs.Ends.{last_round}
use Rattle.chances.proofs.ends.last_round.Given as goal

-- the last round of those before and of those that are left is that of all
abbrev pub invariant-loop-verdict : goal.invariant-loop-verdict
invariant-loop-verdict l = max l.last (last_round (drop l.verdict-index l.verdicts)) ≡ last_round l.verdicts
