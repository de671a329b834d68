use Rattle.std.proofs.Common.{List, ℕ, sym, subst}
use Rattle.gateway.specs.Queries.{IsPosition}
use Rattle.gateway.proofs.queries.after_query.Goals as goal

pub returns-in-Some-clause-none : goal.returns-in-Some-clause-none
returns-in-Some-clause-none c = λ none at is.
    c.position_of.ensures.none none at (subst (λ (text : List ℕ). IsPosition text at) (sym (c.in-Some.ensures.exact is.0 is.1)) is.2)

pub returns-in-None-clause-none : goal.returns-in-None-clause-none
returns-in-None-clause-none c = λ none at is. c.in-None.ensures.exact is.0 is.1
