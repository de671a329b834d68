use Rattle.numerals.proofs.Cuts.{no_cut}
use Rattle.gateway.proofs.Words.{cut_number, same_number}
use Rattle.gateway.proofs.replies.two_numbers.Goals as goal

pub returns-in-Some-clause-exact : goal.returns-in-Some-clause-exact
returns-in-Some-clause-exact c = λ first second are.
    let parts = cut_number c.args.words.now are.0 are.1 c.in-Some.first.now c.in-Some.second.now first c.in-Some.ensures.0 c.in-Some.ensures.1 are.2 are.3 in
    c.both_numbers.ensures.exact first second
    (same_number c.in-Some.first.now are.0 first parts.0 are.3) (same_number c.in-Some.second.now are.1 second parts.1 are.4)

pub returns-in-None-clause-exact : goal.returns-in-None-clause-exact
returns-in-None-clause-exact c = λ first second are. absurd (no_cut c.args.words.now are.0 are.1 c.in-None.ensures are.2)
