use Rattle.desk.proofs.Words.{proposed, not_proposed}
use Rattle.desk.proofs.line.proposed.Goals as goal

pub returns-in-Some-proposal-clause-exact : goal.returns-in-Some-proposal-clause-exact
returns-in-Some-proposal-clause-exact c = λ asked _ is.
    proposed c.args.text.now c.in-Some.rest.now asked c.in-Some-proposal.question c.in-Some-proposal.bit c.in-Some.ensures.some
    c.in-Some-proposal.ensures.exact is

pub returns-in-None-proposal-clause-exact : goal.returns-in-None-proposal-clause-exact
returns-in-None-proposal-clause-exact c = λ asked _ is.
    absurd (not_proposed c.args.text.now c.in-Some.rest.now asked c.in-Some.ensures.some c.in-None-proposal.ensures.exact is)
