use Rattle.std.proofs.Common.{sym, ◌∷◌, ◌++◌}
use Rattle.numerals.proofs.Cuts.{no_cut}
use Rattle.gateway.proofs.Words.{cut_number, same_number}
use Rattle.gateway.proofs.replies.two_links.Goals as goal

pub returns-in-Some-clause-exact : goal.returns-in-Some-clause-exact
returns-in-Some-clause-exact c = λ coming going are.
    let parts = cut_number c.args.words.now are.0 (are.1 ++ 32 ∷ are.2) c.in-Some.first.now c.in-Some.rest.now coming c.in-Some.ensures.0 c.in-Some.ensures.1 are.3 are.4 in
    c.links_from.ensures.exact coming going are.1 are.2 (sym parts.1) (same_number c.in-Some.first.now are.0 coming parts.0 are.4) are.5

pub returns-in-None-clause-exact : goal.returns-in-None-clause-exact
returns-in-None-clause-exact c = λ coming going are. absurd (no_cut c.args.words.now are.0 (are.1 ++ 32 ∷ are.2) c.in-None.ensures are.3)
