use Rattle.std.specs.List.{IsFirstBest}
use Rattle.running.specs.Refusals.{is_older}
use Rattle.running.proofs.refusals.oldest.Given as goal

abbrev pub invariant-loop-at : goal.invariant-loop-at
invariant-loop-at l = IsFirstBest is_older l.places l.at l.oldest
