use Rattle.std.proofs.Common.{List, ℕ, subst, sym}
use Rattle.gateway.specs.Queries.{AreBoundsOf}
use Rattle.gateway.proofs.queries.bounds_of.Goals as goal

pub returns-in-Some-clause-exact : goal.returns-in-Some-clause-exact
returns-in-Some-clause-exact c = λ from to are.
    c.rest_bounds.ensures.exact from to
    (subst (λ (rest : List ℕ). AreBoundsOf rest from to) (sym (c.in-Some.ensures.exact are.0 are.1)) are.2)
