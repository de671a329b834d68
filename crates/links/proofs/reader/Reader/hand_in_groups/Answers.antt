use Rattle.std.proofs.Common.{◌<◌, length, arith}
use Rattle.std.proofs.lemmas.Bool.Decides.{nat_tests}
use Rattle.links.proofs.Parts.{part_none, part_more}
use Rattle.links.proofs.reader.Reader.hand_in_groups.Goals as goal

pub loop-rest-init : goal.loop-rest-init
loop-rest-init g c = part_none c.args.seat.now c.args.events.now c.recall.ensures

pub loop-rest-preserved : goal.loop-rest-preserved
loop-rest-preserved g c =
    let some : 0 < length c.loop-rest.rest.now = grind (arith, nat_tests, c.is_empty.ensures, c.loop-rest-test.true) in
    let group : 0 < length c.split_at.result.0.now = omega (arith, c.split_at.ensures.front_len, c.min.ensures, some) in
    part_more c.args.seat.now c.loop-rest.seat c.hand_in_group.new.seat c.args.events.now c.loop-rest.rest.now c.split_at.result.0.now c.split_at.result.1.now c.loop-rest.invariant c.split_at.ensures.by_index.0 c.in-Ok.ensures.ok
    (c.in-Ok.ensures.heard group)
