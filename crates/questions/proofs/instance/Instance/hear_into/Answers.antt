use Rattle.std.proofs.Common.{ℕ, ◌≡◌, ◌∙◌, sym, ap, subst, Option}
use Rattle.std.proofs.lemmas.Result.{err_from_is_err_and}
use Rattle.terms_prelude.specs.Terms.{Place, Echo, Ready, Said, new_statement, Past, after_hearing, Value, AreDue, IsLeast, MaySay, on, AllFit}
use Rattle.terms.proofs.Fit.{fit_heard}
use Rattle.rbc.specs.Answers.{heard_as, heard_of, IsQuietAt, IsNewlyAccepted}
use Rattle.rbc.specs.declared.Heard.TheVariants.{News, Repeat, Foreign}
use Rattle.questions.specs.Replies.{added}
use Rattle.questions.specs.Words.{Has, InstanceStandsFor, IsQuietElsewhere}
use Rattle.questions.proofs.Taking.{IsNews, news_parts, if_news}
use Rattle.questions.proofs.Waiting.{waiting_heard}
use Rattle.questions.proofs.Quiet.{quiet_elsewhere}
use Rattle.questions.proofs.Replying.{stands_after, stands_known}
use Rattle.questions.proofs.instance.Instance.hear_into.Goals as goal
use Rattle.questions.proofs.instance.Instance.hear_into.Goals.{In_ok-say_all-in-News}

module _ (c : In_ok-say_all-in-News) (past : Past) (stands : InstanceStandsFor c.args.self.now past) where
  asked : c.args.s.now.place.question ≡ past.question
  asked = c.requires.question ∙ stands.has.own.question

  news : IsNews past c.args.from c.args.s.now
  news = news_parts past c.args.from c.args.s.now (sym (c.in_ok-receive.ensures.heard past stands.has) ∙ ap heard_of c.in-News.is)

  abbrev now : Past
  now = after_hearing past c.args.from c.args.s.now

  has_now : Has c.receive.new.self now
  has_now = c.in_ok-receive.ensures.has past stands.has

  fits_now : AllFit now
  fits_now = fit_heard past c.args.from c.args.s.now c.recall.ensures.fits stands.fits

  quiet_at : IsQuietAt past c.args.s.now.place
  quiet_at =
      record {
        echo = λ m may. stands.quiet (Said (new_statement Echo c.args.s.now.place m)) asked may;
        ready = λ m may. stands.quiet (Said (new_statement Ready c.args.s.now.place m)) asked may;
      }

  due : AreDue now c.args.s.now.place c.args.toss.0 (added c.args.batch.now.items c.say_all.new.batch.items)
  due =
      subst (λ (p : Place). AreDue now p c.args.toss.0 (added c.args.batch.now.items c.say_all.new.batch.items)) c.place.ensures
      (c.in_ok-say_all-in-News.ensures.due now has_now fits_now
      (subst (λ (p : Place). IsQuietElsewhere now p) (sym c.place.ensures) (quiet_elsewhere past c.args.from c.args.s.now news stands.quiet))
      (subst (λ (p : Place). IsLeast (MaySay now Echo p) c.in-News.brought.due.echo) (sym c.place.ensures)
      (if_news c.in_ok-receive.field-0 c.in-News.brought _ c.in-News.is c.in_ok-receive.ensures.echo past stands.has quiet_at))
      (subst (λ (p : Place). IsLeast (MaySay now Ready p) c.in-News.brought.due.ready) (sym c.place.ensures)
      (if_news c.in_ok-receive.field-0 c.in-News.brought _ c.in-News.is c.in_ok-receive.ensures.ready past stands.has quiet_at))
      (λ none. waiting_heard past c.args.from c.args.s.now news stands.quiet
      (subst (λ (o : Option Value). IsNewlyAccepted past c.args.from c.args.s.now o) none
      (if_news c.in_ok-receive.field-0 c.in-News.brought _ c.in-News.is c.in_ok-receive.ensures.accepted past stands.has))))

  due_asked : AreDue (after_hearing (on past c.args.s.now.place.question) c.args.from c.args.s.now) c.args.s.now.place c.args.toss.0 (added c.args.batch.now.items c.say_all.new.batch.items)
  due_asked = subst (λ (q : ℕ). AreDue (after_hearing (on past q) c.args.from c.args.s.now) c.args.s.now.place c.args.toss.0 (added c.args.batch.now.items c.say_all.new.batch.items)) (sym asked) due

pub returns-in_ok-say_all-in-News-clause-reply : goal.returns-in_ok-say_all-in-News-clause-reply
returns-in_ok-say_all-in-News-clause-reply c = λ past stands.
    let n = news c past stands in (n.own, n.first, due_asked c past stands)

pub returns-in_ok-say_all-in-News-clause-stands : goal.returns-in_ok-say_all-in-News-clause-stands
returns-in_ok-say_all-in-News-clause-stands c = λ past stands.
    stands_after c.say_all.new.self (now c past stands) (added c.args.batch.now.items c.say_all.new.batch.items) stands.size (fits_now c past stands)
    (c.in_ok-say_all-in-News.ensures.has (now c past stands) (has_now c past stands)) (due c past stands).rest

pub returns-in-Repeat-clause-stands : goal.returns-in-Repeat-clause-stands
returns-in-Repeat-clause-stands c = λ past stands.
    let known : heard_as past c.args.from c.args.s.now ≡ News → ⊥ =
    λ e. let one : Repeat ≡ News = sym (ap heard_of c.in-Repeat.is) ∙ c.in_ok-receive.ensures.heard past stands.has ∙ e in cc one in
    stands_known c.args.self.now c.receive.new.self past c.args.from c.args.s.now known stands (c.in_ok-receive.ensures.has past stands.has)

pub returns-in_err-say_all-in-News-clause-err_only_at_news : goal.returns-in_err-say_all-in-News-clause-err_only_at_news
returns-in_err-say_all-in-News-clause-err_only_at_news c =
    let p = err_from_is_err_and c.from_residual-in_err-say_all-in-News.result c.from_residual-in_err-say_all-in-News.ensures.1 in
    rw (p.1) (λ past stands.
    let n = news_parts past c.args.from c.args.s.now (sym (c.in_ok-receive.ensures.heard past stands.has) ∙ ap heard_of c.in-News.is) in (n.own, n.first))

pub returns-in-Foreign-clause-stands : goal.returns-in-Foreign-clause-stands
returns-in-Foreign-clause-stands c = λ past stands.
    let known : heard_as past c.args.from c.args.s.now ≡ News → ⊥ =
    λ e. let one : Foreign ≡ News = sym (ap heard_of c.in-Foreign.is) ∙ c.in_ok-receive.ensures.heard past stands.has ∙ e in cc one in
    stands_known c.args.self.now c.receive.new.self past c.args.from c.args.s.now known stands (c.in_ok-receive.ensures.has past stands.has)
