use Rattle.portal.specs.Fetches.{IsFetchOf, question_in}
use Rattle.portal.proofs.fetching.fetch.Given as goal

-- what is known so far
abbrev pub invariant-loop-member : goal.invariant-loop-member
invariant-loop-member g l = IsFetchOf l.shared.scope.size (question_in l.shared.scope.size l.question) l.bit l.fetched
