use Rattle.std.proofs.Common.{◌≡◌, [], ◌∷◌, ◌++◌, rules}
use Rattle.node.specs.Standings.{IsDecisionOf}
use Rattle.desk.proofs.Followed.{owes_blank}
use Rattle.desk.proofs.following.Follower.owe_blank.Goals as goal

pub returns : goal.returns
returns g c = λ from old wrote t.
    let next : c.self.inside.next ≡ c.args.self.now.next = search (rules, c.self.view_is) in
    let owed : c.put.new.lines.items ≡ c.args.self.now.owed ++ 10 ∷ [] = search (rules, c.put.ensures, c.self.view_is) in
    owes_blank (IsDecisionOf g.row.D.Denot c.args.hub.now) from old wrote c.args.self.now (record { next = c.self.inside.next; owed = c.put.new.lines.items }) t next owed
