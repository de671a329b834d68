use Rattle.numerals.proofs.Cuts.{no_cut}
use Rattle.gateway.proofs.Words.{cut_number, same_number}
use Rattle.gateway.proofs.replies.links_from.Goals as goal

pub returns-in-Some-clause-exact : goal.returns-in-Some-clause-exact
returns-in-Some-clause-exact c = λ coming going second more whole first_is second_is.
    let parts = cut_number c.args.rest.now second more c.in-Some.second.now c.in-Some._more.now going c.in-Some.ensures.0 c.in-Some.ensures.1 whole second_is in
    c.both_numbers.ensures.exact coming going first_is (same_number c.in-Some.second.now second going parts.0 second_is)

pub returns-in-None-clause-exact : goal.returns-in-None-clause-exact
returns-in-None-clause-exact c = λ coming going second more whole first_is second_is. absurd (no_cut c.args.rest.now second more c.in-None.ensures whole)
