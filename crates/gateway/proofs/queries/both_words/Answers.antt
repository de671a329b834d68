use Rattle.std.proofs.Common.{sym, ◌∙◌, codes, ◌++◌}
use Rattle.gateway.proofs.Cuts.{no_cut, one_cut}
use Rattle.gateway.proofs.queries.both_words.Goals as goal

pub returns-in-Some-behind-clause-exact : goal.returns-in-Some-behind-clause-exact
returns-in-Some-behind-clause-exact c = λ first second cut.
    let one = one_cut 38 c.in-Some.first.now first c.in-Some.more.now (codes "to=" ++ second) c.in-Some.ensures.1 cut.one (sym c.in-Some.ensures.0 ∙ cut.is) in
    (one.0, c.in-Some-behind.ensures.exact second one.1)

pub returns-in-None-behind-clause-exact : goal.returns-in-None-behind-clause-exact
returns-in-None-behind-clause-exact c = λ first second cut.
    let one = one_cut 38 c.in-Some.first.now first c.in-Some.more.now (codes "to=" ++ second) c.in-Some.ensures.1 cut.one (sym c.in-Some.ensures.0 ∙ cut.is) in
    c.in-None-behind.ensures.exact second one.1

pub returns-in-None-clause-exact : goal.returns-in-None-clause-exact
returns-in-None-clause-exact c = λ first second cut. no_cut 38 c.args.rest.now first (codes "to=" ++ second) c.in-None.ensures cut.is
