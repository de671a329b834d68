use Rattle.std.proofs.Common.{rules}
use Rattle.commands.proofs.Waiting.{patience_alone, patience_before}
use Rattle.commands.proofs.patience.milliseconds.Goals as goal

pub returns-in-Some-clause-exact : goal.returns-in-Some-clause-exact
returns-in-Some-clause-exact c = λ time is.
    let before = patience_before c.args.text.now c.in-Some.front.now time c.in-Some.ensures.some is in
    search (rules, before, c.seconds.ensures.exact)

pub returns-in-None-clause-exact : goal.returns-in-None-clause-exact
returns-in-None-clause-exact c = λ time is.
    let alone = patience_alone c.args.text.now time c.in-None.ensures.exact is in
    search (rules, alone, c.seconds-in-None.ensures.exact)
