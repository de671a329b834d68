use Rattle.std.proofs.Common.{inl, inr, refl}
use Rattle.commands.proofs.replies.fixed_object.Goals as goal

pub returns-in-None-clause-none : goal.returns-in-None-clause-none
returns-in-None-clause-none c = λ none object fixed. elim fixed [
  | inl good ↦ c.in-None.ensures.none refl object good
  | inr other ↦ c.other_object.ensures.none none object other
]
