use Rattle.transcripts.proofs.Rests.{AreRead}
use Rattle.transcripts.proofs.audit.read_pairs.Given as goal

abbrev pub invariant-loop-number : goal.invariant-loop-number
invariant-loop-number l = AreRead l.size l.count l.text l.pairs.items l.rest l.number
