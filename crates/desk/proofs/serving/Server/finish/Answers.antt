use Rattle.std.proofs.Common.{◌≡◌, length, rules, inr}
use Rattle.links.specs.Told.{has_written}
use Rattle.desk.specs.Sessions.{AnswersLine, sitting}
use Rattle.desk.proofs.Exchanging.{no_bytes, ended, ended_by_line, ended_lost}
use Rattle.desk.proofs.serving.Server.finish.Goals as goal

pub returns-then-is_empty-clause-off : goal.returns-then-is_empty-clause-off
returns-then-is_empty-clause-off g c = λ before over begun old s.
    let none : length c.args.sheet.now.line ≡ 0 = search (rules, c.if-is_empty.true, c.line.ensures, c.is_empty.ensures) in
    ended (AnswersLine g.row.D.Denot g.T.Tosser.may_toss c.args.self.now.hub.now g.J.Naming.opening) begun (sitting c.args.pass.now c.args.tosser.now)
    old before (g.S.Stream.told c.args.stream.now) c.args.sheet.now.replies.items c.args.sheet.now.line s (no_bytes c.args.sheet.now.line none) over

pub returns-in-Ok-clause-off : goal.returns-in-Ok-clause-off
returns-in-Ok-clause-off g c = λ before over begun old s.
    ended_by_line (AnswersLine g.row.D.Denot g.T.Tosser.may_toss c.args.self.now.hub.now g.J.Naming.opening) begun (sitting c.args.pass.now c.args.tosser.now)
    (sitting c.answer_held.new.pass c.answer_held.new.tosser) old before (has_written (g.S.Stream.told c.args.stream.now) c.args.sheet.now.replies.items) (g.S.Stream.told c.answer_held.new.stream)
    c.answer_held.new.sheet.replies.items c.args.sheet.now.line s (search rules) over c.in-Ok.ensures.ok

pub returns-in-Err-clause-off : goal.returns-in-Err-clause-off
returns-in-Err-clause-off g c = λ before over begun old s. inr (
  c.in-Err.ensures.err.0,
  ended_lost (AnswersLine g.row.D.Denot g.T.Tosser.may_toss c.args.self.now.hub.now g.J.Naming.opening) begun (sitting c.args.pass.now c.args.tosser.now)
      (sitting c.answer_held.new.pass c.answer_held.new.tosser) old before (has_written (g.S.Stream.told c.args.stream.now) c.args.sheet.now.replies.items) (g.S.Stream.told c.answer_held.new.stream)
      c.args.sheet.now.line s (search rules) over c.in-Err.ensures.err.1,
)
