use Rattle.std.proofs.Common.{inl, inr, refl}
use Rattle.gateway.proofs.routes.route_of.Goals as goal

pub returns-in-None-clause-none : goal.returns-in-None-clause-none
returns-in-None-clause-none c = λ none route is. elim is [
  | inl plain ↦ c.in-None.ensures.none refl route plain
  | inr rest ↦ elim rest [
    | inl list ↦ c.data_route.ensures.lists none route list
    | inr number ↦ c.data_route.ensures.numbers none route number
  ]
]
