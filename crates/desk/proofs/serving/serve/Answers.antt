use Rattle.desk.specs.Sessions.{AnswersLine, sitting}
use Rattle.desk.proofs.Exchanging.{left}
use Rattle.desk.proofs.serving.serve.Goals as goal

pub returns-in-Err-clause-serves : goal.returns-in-Err-clause-serves
returns-in-Err-clause-serves g c =
    left (AnswersLine g.row.D.Denot g.T.Tosser.may_toss c.args.desk.hub.now g.J.Naming.opening) (sitting c.args.pass.now c.args.tosser.now)
    (sitting c.turn.new.pass c.turn.new.tosser) (g.S.Stream.told c.args.stream.now) (g.S.Stream.told c.turn.new.stream) (g.S.Stream.told c.leave.new.stream)
    c.turn.new.sheet.replies.items c.in-Err.end c.leave.result
    (c.in-Err.ensures.off (sitting c.args.pass.now c.args.tosser.now) (g.S.Stream.told c.args.stream.now) c.loop.invariant.1)
    c.leave.ensures.lost c.leave.ensures.over
