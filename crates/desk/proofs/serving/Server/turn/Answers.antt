use Rattle.std.proofs.Common.{◌≡◌, ◌∙◌, ap, rules, subst, sym, inl, inr, refl, arith, [], ℕ, List, take}
use Rattle.links.specs.Told.{Told, has_ended, has_read, has_failed, has_written}
use Rattle.desk.specs.Sessions.{AnswersLine, sitting}
use Rattle.desk.specs.Turns.{Serving}
use Rattle.desk.proofs.Exchanging.{read_lost, reads_on}
use Rattle.desk.proofs.Holding.{all_written, behind_held, nothing_broke}
use Rattle.desk.proofs.serving.Server.turn.Goals as goal

pub returns-in-Err-clause-off : goal.returns-in-Err-clause-off
returns-in-Err-clause-off g c = λ begun old s. inr (
  c.in-Err.ensures.err.0,
  read_lost (AnswersLine g.row.D.Denot g.T.Tosser.may_toss c.args.self.now.hub.now g.J.Naming.opening) begun (sitting c.args.pass.now c.args.tosser.now)
      old (has_written (g.S.Stream.told c.args.stream.now) c.args.sheet.now.replies.items) (g.S.Stream.told c.write_held.new.stream) c.args.sheet.now.line c.in-Err.ensures.err.1.unsaid s c.in-Err.ensures.err.1.few
      (nothing_broke (has_written (g.S.Stream.told c.args.stream.now) c.args.sheet.now.replies.items) (has_written (g.S.Stream.told c.write_held.new.stream) c.in-Err.ensures.err.1.unsaid) c.in-Err.ensures.err.1.broke),
)

pub returns-in-Ok-eq0-clause-off : goal.returns-in-Ok-eq0-clause-off
returns-in-Ok-eq0-clause-off g c =
    let told : g.S.Stream.told c.read.new.self ≡ has_ended (g.S.Stream.told c.write_held.new.stream) = search (rules, c.in-Ok-eq0.ensures.end, c.in-Ok-eq0.field-0-test) in
    c.finish.ensures.off (has_written (g.S.Stream.told c.args.stream.now) c.args.sheet.now.replies.items)
    (behind_held (has_written (g.S.Stream.told c.args.stream.now) c.args.sheet.now.replies.items) (g.S.Stream.told c.write_held.new.stream) (g.S.Stream.told c.read.new.self) c.write_held.new.held.items
    (λ (t : Told). has_ended t) c.in_default.ensures.none c.in_default.ensures.ok told)

pub returns-in-Err-read-clause-off : goal.returns-in-Err-read-clause-off
returns-in-Err-read-clause-off g c = λ begun old s. inr (
  refl,
  read_lost (AnswersLine g.row.D.Denot g.T.Tosser.may_toss c.args.self.now.hub.now g.J.Naming.opening) begun (sitting c.args.pass.now c.args.tosser.now)
      old (has_written (g.S.Stream.told c.args.stream.now) c.args.sheet.now.replies.items) (g.S.Stream.told c.read.new.self) c.args.sheet.now.line [] s (omega arith)
      (all_written (g.S.Stream.told c.read.new.self) ∙ c.in-Err-read.ensures.fault ∙ ap has_failed c.in_default.ensures.ok),
)
