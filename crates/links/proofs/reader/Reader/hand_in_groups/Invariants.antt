use Rattle.std.proofs.Common.{length}
use Rattle.links.specs.Tossed.{HandsPart}
use Rattle.links.proofs.reader.Reader.hand_in_groups.Given as goal

abbrev pub invariant-loop-rest : goal.invariant-loop-rest
invariant-loop-rest g l = HandsPart l.initial.seat l.seat l.events l.rest

abbrev pub decreases-loop-rest : goal.decreases-loop-rest
decreases-loop-rest g l = length l.rest
