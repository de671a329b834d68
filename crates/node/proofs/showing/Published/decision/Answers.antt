use Rattle.std.proofs.Common.{◌≡◌, ◌<◌, length, get_or, rules}
use Rattle.node.proofs.Telling.{found_at}
use Rattle.node.proofs.showing.Published.decision.Goals as goal

pub returns-in-Some : goal.returns-in-Some
returns-in-Some g c =
    let less : c.args.number < length c.self.inside.decisions.items = search (rules, c.in-Some.ensures, c.get.ensures) in
    let is : c.in-Some.decision.now ≡ get_or c.self.inside.decisions.items c.args.number c.in-Some.decision.now = search (rules, c.in-Some.ensures, c.get.ensures) in
    c.self.invariant.1 c.args.number c.in-Some.decision.now (found_at c.self.inside.decisions.items c.args.number c.in-Some.decision.now less is)
