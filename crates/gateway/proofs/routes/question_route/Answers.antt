use Rattle.std.proofs.Common.{inl, inr}
use Rattle.gateway.proofs.Cuts.{never}
use Rattle.gateway.proofs.routes.question_route.Goals as goal

pub returns-in-None-clause-none : goal.returns-in-None-clause-none
returns-in-None-clause-none c = λ none route is. elim is [
  | inl question ↦ never question.0 (c.in-None.ensures.exact question.0 question.1)
  | inr transcript ↦ c.transcript_route.ensures.none none route transcript
]
