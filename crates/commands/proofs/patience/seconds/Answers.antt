use Rattle.std.proofs.Common.{rules}
use Rattle.commands.proofs.Waiting.{parts_before, whole_alone}
use Rattle.commands.proofs.patience.seconds.Goals as goal

pub returns-in-Some-clause-exact : goal.returns-in-Some-clause-exact
returns-in-Some-clause-exact c = λ time is.
    let are = parts_before c.args.text.now c.in-Some.front.now c.in-Some.digits.now time c.in-Some.ensures.parts c.in-Some.ensures.exact is in
    search (rules, c.with_part.ensures.exact time are)

pub returns-in-None-clause-exact : goal.returns-in-None-clause-exact
returns-in-None-clause-exact c = λ time is.
    let alone = whole_alone c.args.text.now time c.in-None.ensures.exact is in
    search (rules, c.whole.ensures.exact time alone)
