use Rattle.std.proofs.Common.{rules, refl, [], ◌∷◌}
use Rattle.links.proofs.Drawing.{draws_one_more}
use Rattle.links.proofs.reader.push_tossed.Goals as goal

pub returns-in-Ok-clause-toss : goal.returns-in-Ok-clause-toss
returns-in-Ok-clause-toss g c = λ begun drawn.
    draws_one_more g.T.Tosser.may_toss begun c.args.tosser.now c.toss-toss.new.self c.args.events.now.items c.push.new.self.items
    (c.args.statement, c.toss-toss.result) drawn c.toss-toss.ensures (search (rules, c.in-Ok.ensures.items))

pub returns-in-Ok-clause-spent : goal.returns-in-Ok-clause-spent
returns-in-Ok-clause-spent g c = (c.toss-toss.result.0 ∷ [], (c.toss-toss.new.self, c.toss-toss.ensures, refl))

pub returns-in-Err-clause-spent : goal.returns-in-Err-clause-spent
returns-in-Err-clause-spent g c = (c.toss-toss.result.0 ∷ [], (c.toss-toss.new.self, c.toss-toss.ensures, refl))
