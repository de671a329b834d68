use Rattle.std.proofs.Common.{◌≡◌, length, ap, arith}
use Rattle.std.proofs.lemmas.Result.{on_ok_weaker}
use Rattle.desk.proofs.Holding.{both_ok, tells_held}
use Rattle.desk.proofs.writing.make_room.Goals as goal

pub returns-clause-same : goal.returns-clause-same
returns-clause-same g c =
    both_ok c.write_held.result
    (λ wrote none. tells_held (g.S.Stream.told c.args.stream.now) (g.S.Stream.told c.write_held.new.stream) c.args.held.now.items c.write_held.new.held.items wrote none)
    c.write_held.ensures.ok c.write_held.ensures.none

pub returns-clause-room : goal.returns-clause-room
returns-clause-room g c =
    on_ok_weaker c.write_held.result
    (λ none. let n : length c.write_held.new.held.items ≡ 0 = ap length none in omega arith)
    c.write_held.ensures.none
