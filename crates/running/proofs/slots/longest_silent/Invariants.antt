use Rattle.std.specs.List.{IsFirstBest}
use Rattle.running.specs.Slots.{is_longer_silent}
use Rattle.running.proofs.slots.longest_silent.Given as goal

abbrev pub invariant-loop-at : goal.invariant-loop-at
invariant-loop-at l = IsFirstBest is_longer_silent l.slots l.at l.longest
