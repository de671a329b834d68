use Rattle.std.proofs.Common.{refl}
use Rattle.gateway.proofs.routes.data_route.Goals as goal

pub returns-in-None-clause-lists : goal.returns-in-None-clause-lists
returns-in-None-clause-lists c = λ none. c.in-None.ensures.none refl
