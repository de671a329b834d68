use Rattle.std.proofs.Common.{rules, IsNone}
use Rattle.asking.proofs.hearsay.worth_in.Goals as goal

pub returns-in-None : goal.returns-in-None
returns-in-None c = λ begins.
    let none : IsNone c.in_ok-bit.field-0 = search (rules, c.in-None.is) in
    c.in_ok-bit.ensures.none none begins.0 begins.1
