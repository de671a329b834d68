use Rattle.desk.proofs.Holding.{holds_more, loses_more}
use Rattle.links.specs.Told.{has_written}
use Rattle.desk.proofs.writing.hold.Goals as goal

pub returns-in-Ok-clause-ok : goal.returns-in-Ok-clause-ok
returns-in-Ok-clause-ok g c =
    holds_more (has_written (g.S.Stream.told c.args.stream.now) c.args.held.now.items) (g.S.Stream.told c.make_room.new.stream) c.args.bytes.now
    c.make_room.new.held.items c.put.new.block.items c.in-Ok.ensures.same c.put.ensures.items

pub returns-in-Err-clause-err : goal.returns-in-Err-clause-err
returns-in-Err-clause-err g c = (
  c.in-Err.ensures.err.0,
  loses_more (has_written (g.S.Stream.told c.args.stream.now) c.args.held.now.items) (g.S.Stream.told c.make_room.new.stream) c.args.bytes.now c.in-Err.ensures.err.1,
)
