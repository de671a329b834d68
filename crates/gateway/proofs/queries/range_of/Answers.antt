use Rattle.std.proofs.Common.{inl, inr}
use Rattle.gateway.proofs.Keeping.{some_text}
use Rattle.gateway.proofs.queries.range_of.Goals as goal

pub returns-clause-none : goal.returns-clause-none
returns-clause-none c = λ none from to is. elim is [
  | inl empty ↦ some_text c.args.query.now c.if-is_empty.ensures empty.0
  | inr named ↦ c.named_range.ensures.none none from to named
]
