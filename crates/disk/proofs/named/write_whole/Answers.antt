use Rattle.std.proofs.Common.{rules, ◌≡◌, ◌+◌}
use Rattle.disk.proofs.Placing.{writes_on, writes_part}
use Rattle.disk.proofs.named.write_whole.Goals as goal

pub loop-rest-preserved : goal.loop-rest-preserved
loop-rest-preserved g c =
    let next : c.in-Some.next ≡ c.loop-rest.place + c.in-Ok.count = search (rules, c.in-Some.ensures, c.checked_add.ensures, c.in-Some.is) in
    writes_on _ _ _ c.args.at c.loop-rest.place c.in-Some.next c.in-Ok.count c.args.bytes.now c.loop-rest.rest.now c.loop-rest.invariant next c.in-Ok.ensures.within c.in-Ok.ensures.ok

pub returns-in_default-clause-err : goal.returns-in_default-clause-err
returns-in_default-clause-err g c = writes_part _ _ _ c.args.at c.loop-rest.place c.in-Ok.count c.args.bytes.now c.loop-rest.rest.now c.loop-rest.invariant c.in-Ok.ensures.ok
