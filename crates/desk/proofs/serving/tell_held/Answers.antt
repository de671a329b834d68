use Rattle.desk.proofs.Holding.{tells_held}
use Rattle.desk.proofs.serving.tell_held.Goals as goal

pub returns-in-Ok : goal.returns-in-Ok
returns-in-Ok g c =
    tells_held (g.S.Stream.told c.args.stream.now) (g.S.Stream.told c.write_held.new.stream) c.args.held.now.items c.write_held.new.held.items
    c.in-Ok.ensures.ok c.in-Ok.ensures.none

pub returns-in-Err : goal.returns-in-Err
returns-in-Err g c = c.in-Err.ensures.err.1
