use Rattle.std.proofs.Common.{◌≡◌, subst, refl, rules, Err, Ok, List, ℕ}
use Rattle.desk.specs.Commands.{Parses}
use Rattle.desk.specs.Sessions.{sitting}
use Rattle.desk.proofs.Exchanging.{answers_line}
use Rattle.desk.proofs.serving.Server.reply_to.Goals as goal

pub returns-in-Err-clause-reply : goal.returns-in-Err-clause-reply
returns-in-Err-clause-reply g c =
    let count : c.size.result.questions ≡ c.args.self.now.hub.now.size.questions = search rules in
    answers_line g.row.D.Denot g.T.Tosser.may_toss c.args.self.now.hub.now g.J.Naming.opening c.size.result.questions
    (sitting c.args.pass.now c.args.tosser.now) (sitting c.args.pass.now c.args.tosser.now)
    c.args.sheet.now.line c.parse.result (Err c.in-Err.refusal) c.in-Err.refusal
    (subst (λ (l : List ℕ). Parses c.size.result.questions l c.parse.result) c.line.ensures c.parse.ensures.either) count c.in-Err.is
    (refl, refl)

pub returns-in-Ok-clause-reply : goal.returns-in-Ok-clause-reply
returns-in-Ok-clause-reply g c =
    let count : c.size.result.questions ≡ c.args.self.now.hub.now.size.questions = search rules in
    answers_line g.row.D.Denot g.T.Tosser.may_toss c.args.self.now.hub.now g.J.Naming.opening c.size.result.questions
    (sitting c.args.pass.now c.args.tosser.now) (sitting c.reply_to_command.new.pass c.reply_to_command.new.tosser)
    c.args.sheet.now.line c.parse.result (Ok c.in-Ok.command) c.reply_to_command.result.0
    (subst (λ (l : List ℕ). Parses c.size.result.questions l c.parse.result) c.line.ensures c.parse.ensures.either) count c.in-Ok.is
    c.reply_to_command.ensures.reply
