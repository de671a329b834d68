use Rattle.std.proofs.Common.{length}
use Rattle.script.proofs.Counted.{rounds_counted}
use Rattle.script.proofs.orders.with_order.Goals as goal

pub returns-in-Rounds-clause-ok : goal.returns-in-Rounds-clause-ok
returns-in-Rounds-clause-ok c =
    rw c.in-Rounds.is (rounds_counted c.args.have c.in-Rounds.count (length c.args.correct.now) c.links.result c.saturating_mul.result c.with_room-in-Rounds.result
    c.links.ensures c.saturating_mul.ensures c.with_room-in-Rounds.ensures.ok)
