use Rattle.std.proofs.Common.{drop}
use Rattle.client.specs.declared.reading.Reading.{Reading}
use Rattle.asking.specs.Hearsay.{TakesProofs}
use Rattle.asking.proofs.hearsay.take_proofs.Given as goal

-- what is proved by the news that is left is all that isn't taken yet
abbrev pub invariant-loop-one : goal.invariant-loop-one
invariant-loop-one l =
    (new : Reading) → TakesProofs l.size l.question (drop l.one-index l.news) l.reading new → TakesProofs l.size l.question l.news l.initial.reading new
