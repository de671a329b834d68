use Rattle.std.proofs.Common.{◌≡◌, ◌∙◌, subst, sym, inr, true≢false}
use Rattle.std.proofs.lemmas.Result.{on_ok_weaker, IfErr-weaker}
use Rattle.links.specs.Told.{has_written}
use Rattle.desk.specs.Lines.{AsksToFollow, IsOfBrowser}
use Rattle.desk.specs.Sessions.{AnswersLine, GoesOn, sitting}
use Rattle.desk.proofs.Exchanging.{followed, holds_on, ends_line, ends_line_lost, is_foreign, too_long}
use Rattle.desk.proofs.serving.Server.serve_byte.Goals as goal

pub returns-in-More-clause-on : goal.returns-in-More-clause-on
returns-in-More-clause-on g c = λ more begun old s.
    holds_on (AnswersLine g.row.D.Denot g.T.Tosser.may_toss c.args.self.now.hub.now g.J.Naming.opening) begun (sitting c.args.pass.now c.args.tosser.now)
    old (has_written (g.S.Stream.told c.args.stream.now) c.args.sheet.now.replies.items) c.args.sheet.now.line c.read.new.self more c.args.byte s
    c.in-More.ensures.0 c.in-More.ensures.1 c.in-More.ensures.2

pub returns-in-None-clause-on : goal.returns-in-None-clause-on
returns-in-None-clause-on g c =
    let ours : GoesOn c.args.sheet.now.line = record {
      no_browser = λ is. true≢false (sym (c.is_of_browser.ensures.1 (subst (λ l. IsOfBrowser l) (sym (c.line.ensures ∙ c.in-Ends.ensures.1)) is)) ∙ c.if-is_of_browser.false);
      no_follower = λ number asks. c.in-None.ensures.none number (subst (λ l. AsksToFollow l number) (sym (c.line-in-Ends.ensures ∙ c.in-Ends.ensures.1)) asks);
    } in
    on_ok_weaker c.answer_held.result
    (λ said more begun old s. ends_line (AnswersLine g.row.D.Denot g.T.Tosser.may_toss c.args.self.now.hub.now g.J.Naming.opening) begun (sitting c.args.pass.now c.args.tosser.now)
    (sitting c.answer_held.new.pass c.answer_held.new.tosser) old (has_written (g.S.Stream.told c.args.stream.now) c.args.sheet.now.replies.items) (has_written (g.S.Stream.told c.answer_held.new.stream) c.answer_held.new.sheet.replies.items)
    c.args.sheet.now.line c.read.new.self c.answer_held.new.sheet.line more c.args.byte s c.in-Ends.ensures.0 c.in-Ends.ensures.1 c.answer_held.ensures.line ours said)
    c.answer_held.ensures.ok

pub returns-in-None-clause-off : goal.returns-in-None-clause-off
returns-in-None-clause-off g c =
    IfErr-weaker c.answer_held.result _ _
    (λ why e more begun old s. inr (
      e.0,
      ends_line_lost (AnswersLine g.row.D.Denot g.T.Tosser.may_toss c.args.self.now.hub.now g.J.Naming.opening) begun (sitting c.args.pass.now c.args.tosser.now)
          (sitting c.answer_held.new.pass c.answer_held.new.tosser) old (has_written (g.S.Stream.told c.args.stream.now) c.args.sheet.now.replies.items) (g.S.Stream.told c.answer_held.new.stream)
          c.args.sheet.now.line c.read.new.self more c.args.byte s c.in-Ends.ensures.0 c.in-Ends.ensures.1 e.1,
    ))
    c.answer_held.ensures.err

pub returns-then-is_of_browser-clause-off : goal.returns-then-is_of_browser-clause-off
returns-then-is_of_browser-clause-off g c = λ more begun old s.
    is_foreign (AnswersLine g.row.D.Denot g.T.Tosser.may_toss c.args.self.now.hub.now g.J.Naming.opening) begun (sitting c.args.pass.now c.args.tosser.now)
    old (has_written (g.S.Stream.told c.args.stream.now) c.args.sheet.now.replies.items) (g.S.Stream.told c.refuse.new.stream) c.refuse.new.held.items c.args.sheet.now.line c.line.result.now more c.args.byte c.refuse.result s
    c.in-Ends.ensures.0 (c.line.ensures ∙ c.in-Ends.ensures.1) (c.is_of_browser.ensures.0 c.if-is_of_browser.true) c.refuse.ensures

pub returns-in-TooLong-clause-off : goal.returns-in-TooLong-clause-off
returns-in-TooLong-clause-off g c = λ more begun old s.
    too_long (AnswersLine g.row.D.Denot g.T.Tosser.may_toss c.args.self.now.hub.now g.J.Naming.opening) begun (sitting c.args.pass.now c.args.tosser.now)
    old (has_written (g.S.Stream.told c.args.stream.now) c.args.sheet.now.replies.items) (g.S.Stream.told c.refuse-in-TooLong.new.stream) c.refuse-in-TooLong.new.held.items c.args.sheet.now.line more c.args.byte c.refuse-in-TooLong.result s
    c.in-TooLong.ensures.0 c.in-TooLong.ensures.1 c.refuse-in-TooLong.ensures

pub returns-in-Some-clause-off : goal.returns-in-Some-clause-off
returns-in-Some-clause-off g c = λ more begun old s.
    followed (AnswersLine g.row.D.Denot g.T.Tosser.may_toss c.args.self.now.hub.now g.J.Naming.opening) begun (sitting c.args.pass.now c.args.tosser.now)
    old (g.S.Stream.told c.args.stream.now) c.args.sheet.now.replies.items c.args.sheet.now.line c.line-in-Ends.result.now more c.args.byte c.in-Some.number s
    c.in-Ends.ensures.0 (c.line-in-Ends.ensures ∙ c.in-Ends.ensures.1) c.in-Some.ensures.some
