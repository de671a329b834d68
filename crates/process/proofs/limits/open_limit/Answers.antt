use Rattle.std.proofs.Common.{rules, sym, subst, ◌≡◌, codes, List, ℕ, Option, Some, IsSomeAnd}
use Rattle.process.specs.Limits.{IsFirstNumber}
use Rattle.commands.specs.TextLines.{lines_in}
use Rattle.process.specs.Status.{first_with}
use Rattle.process.proofs.limits.open_limit.Goals as goal

pub returns-in-Some-clause-exact : goal.returns-in-Some-clause-exact
returns-in-Some-clause-exact c = λ limit has.
    let is : Some c.in-Some.rest.now ≡ first_with (codes "Max open files            ") (lines_in c.args.limits.now) = search (rules, c.in_ok-rest.ensures) in
    c.first_number.ensures.exact limit (subst (λ (o : Option (List ℕ)). IsSomeAnd o (λ rest. IsFirstNumber rest limit)) (sym is) has)
