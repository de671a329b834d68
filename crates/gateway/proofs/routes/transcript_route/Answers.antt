use Rattle.std.proofs.Common.{List, ℕ, subst, sym}
use Rattle.numerals.specs.Numbers.{IsBelow}
use Rattle.gateway.proofs.Cuts.{never}
use Rattle.gateway.proofs.routes.transcript_route.Goals as goal

pub returns-in-None-number-clause-none : goal.returns-in-None-number-clause-none
returns-in-None-number-clause-none c = λ none route is.
    let digits = c.in-Some.ensures.exact is.0 is.2 in
    never is.1 (c.in-None-number.ensures.exact is.1 (subst (λ (d : List ℕ). IsBelow 64 d is.1) (sym digits) is.3))
