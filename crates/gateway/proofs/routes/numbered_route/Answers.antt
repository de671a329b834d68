use Rattle.std.proofs.Common.{List, ℕ, subst, sym}
use Rattle.gateway.specs.Routes.{IsQuestionRest}
use Rattle.gateway.proofs.routes.numbered_route.Goals as goal

pub returns-in-Some-clause-none : goal.returns-in-Some-clause-none
returns-in-Some-clause-none c = λ none route is.
    c.question_route.ensures.none none route
    (subst (λ (rest : List ℕ). IsQuestionRest rest route) (sym (c.in-Some.ensures.exact is.0 is.1)) is.2)

pub returns-in-None-clause-none : goal.returns-in-None-clause-none
returns-in-None-clause-none c = λ none route is. c.in-None.ensures.exact is.0 is.1
