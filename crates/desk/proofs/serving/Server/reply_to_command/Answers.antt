use Rattle.std.proofs.Common.{ap, refl, subst, sym}
use Rattle.desk.specs.declared.command.Command.{Command}
use Rattle.node.specs.Verdicts.{PassView, SeesOn}
use Rattle.desk.specs.Sessions.{AnswersCommand, LooksOn, sitting}
use Rattle.desk.proofs.serving.Server.reply_to_command.Goals as goal

looks_on : {T : Type 0} {old new : PassView} {before after : T} → SeesOn old new → LooksOn (sitting old before) (sitting new after)
looks_on s = record { known = ap (λ (p : PassView). p.known) s.same; later = s.later }

pub returns-in-Ask-clause-reply : goal.returns-in-Ask-clause-reply
returns-in-Ask-clause-reply g c =
    subst (λ (k : Command). AnswersCommand g.row.D.Denot g.T.Tosser.may_toss c.args.self.now.hub.now g.J.Naming.opening (sitting c.args.pass.now c.args.tosser.now) k c.ask.result
    (sitting c.ask.new.pass c.args.tosser.now)) (sym c.in-Ask.is) (refl, c.ask.ensures.log, c.ask.ensures.more, c.ask.ensures.reply)

pub returns-in-Await-clause-reply : goal.returns-in-Await-clause-reply
returns-in-Await-clause-reply g c =
    subst (λ (k : Command). AnswersCommand g.row.D.Denot g.T.Tosser.may_toss c.args.self.now.hub.now g.J.Naming.opening (sitting c.args.pass.now c.args.tosser.now) k c.await_decision.result.0
    (sitting c.await_decision.new.pass c.args.tosser.now)) (sym c.in-Await.is) (refl, c.await_decision.ensures.later, c.await_decision.ensures.more, c.await_decision.ensures.reply)

pub returns-in-Propose-clause-reply : goal.returns-in-Propose-clause-reply
returns-in-Propose-clause-reply g c =
    subst (λ (k : Command). AnswersCommand g.row.D.Denot g.T.Tosser.may_toss c.args.self.now.hub.now g.J.Naming.opening (sitting c.args.pass.now c.args.tosser.now) k c.propose.result
    (sitting c.propose.new.pass c.propose.new.tosser)) (sym c.in-Propose.is) (looks_on c.propose.ensures.sees, c.propose.ensures.reply)

pub returns-in-Status-clause-reply : goal.returns-in-Status-clause-reply
returns-in-Status-clause-reply g c =
    subst (λ (k : Command). AnswersCommand g.row.D.Denot g.T.Tosser.may_toss c.args.self.now.hub.now g.J.Naming.opening (sitting c.args.pass.now c.args.tosser.now) k c.status.result
    (sitting c.status.new.pass c.status.new.tosser)) (sym c.in-Status.is) (looks_on c.status.ensures.sees, c.status.ensures.reply)

pub returns-in-Transcript-clause-reply : goal.returns-in-Transcript-clause-reply
returns-in-Transcript-clause-reply g c =
    subst (λ (k : Command). AnswersCommand g.row.D.Denot g.T.Tosser.may_toss c.args.self.now.hub.now g.J.Naming.opening (sitting c.args.pass.now c.args.tosser.now) k c.transcript_of.result
    (sitting c.transcript_of.new.pass c.args.tosser.now)) (sym c.in-Transcript.is) (refl, looks_on c.transcript_of.ensures.sees, c.transcript_of.ensures.told)

pub returns-in-Links-clause-reply : goal.returns-in-Links-clause-reply
returns-in-Links-clause-reply g c =
    subst (λ (k : Command). AnswersCommand g.row.D.Denot g.T.Tosser.may_toss c.args.self.now.hub.now g.J.Naming.opening (sitting c.args.pass.now c.args.tosser.now) k c.links.result
    (sitting c.links.new.pass c.args.tosser.now)) (sym c.in-Links.is) (refl, looks_on c.links.ensures.sees, c.links.ensures.reply)

pub returns-in-State-clause-reply : goal.returns-in-State-clause-reply
returns-in-State-clause-reply g c =
    subst (λ (k : Command). AnswersCommand g.row.D.Denot g.T.Tosser.may_toss c.args.self.now.hub.now g.J.Naming.opening (sitting c.args.pass.now c.args.tosser.now) k c.state_of.result
    (sitting c.state_of.new.pass c.args.tosser.now)) (sym c.in-State.is) (refl, looks_on c.state_of.ensures.sees, c.state_of.ensures.told)
