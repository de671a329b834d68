use Rattle.std.proofs.Common.{List, ℕ, sym, subst, ◌∙◌}
use Rattle.numerals.specs.Numbers.{IsBelow}
use Rattle.gateway.proofs.Cuts.{no_cut, one_cut}
use Rattle.gateway.proofs.queries.position_of.Goals as goal

pub returns-in-Some-clause-none : goal.returns-in-Some-clause-none
returns-in-Some-clause-none c = λ none at is.
    let one = one_cut 46 is.first c.in-Some.life.now is.second c.in-Some.place.now is.one c.in-Some.ensures.1 (sym is.is ∙ c.in-Some.ensures.0) in
    c.position_at.ensures.none none at.life at.number
    (subst (λ (word : List ℕ). IsBelow 64 word at.life) one.0 is.life)
    (subst (λ (word : List ℕ). IsBelow 64 word at.number) one.1 is.number)

pub returns-in-None-clause-none : goal.returns-in-None-clause-none
returns-in-None-clause-none c = λ none at is. no_cut 46 c.args.text.now is.first is.second c.in-None.ensures is.is
