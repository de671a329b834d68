use Rattle.std.proofs.Common.{◌<◌, length, arith}
use Rattle.sim.proofs.Numbers.{nth_bound, found}
use Rattle.sim.proofs.presence.statement_at.Goals as goal

pub returns-then-left-eq0-clause-room : goal.returns-then-left-eq0-clause-room
returns-then-left-eq0-clause-room c =
    let l : c.args.number < length c.args.records.now =
    nth_bound c.args.records.now c.args.number c.in-Said.statement
    (found c.args.records.now c.args.number c.loop-item.item-index c.loop-item.left c.item-item.result c.in-Said.statement c.loop-item-test.true c.item-item.is c.in-Said.is c.if-left-eq0.true c.loop-item.invariant) in
    omega arith
