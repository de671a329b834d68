use Rattle.std.proofs.Common.{◌≡◌, ◌+◌, ◌++◌, rules}
use Rattle.node.specs.Standings.{IsDecisionOf}
use Rattle.numerals.specs.Lines.{line}
use Rattle.desk.specs.Following.{decision_text}
use Rattle.desk.proofs.Followed.{owes_decision}
use Rattle.desk.proofs.following.Follower.owe.Goals as goal

pub returns : goal.returns
returns g c = λ from old wrote t.
    let next : c.in-Some.next ≡ c.args.self.now.next + 1 = search (rules, c.in-Some.ensures, c.checked_add.ensures, c.in-Some.is, c.self.view_is) in
    let owed : c.put_decision.new.lines.items ≡ c.args.self.now.owed ++ line (decision_text c.args.decision) = search (rules, c.put_decision.ensures, c.self.view_is) in
    owes_decision (IsDecisionOf g.row.D.Denot c.args.hub.now) from old wrote c.args.self.now (record { next = c.in-Some.next; owed = c.put_decision.new.lines.items })
    c.args.decision t c.requires next owed
