use Rattle.std.proofs.Common.{rules, ◌≡◌, Some, sym, ap, ◌∙◌, [], ◌∷◌, slice_get}
use Rattle.terms_prelude.specs.Terms.{Place, past_of, Hearing}
use Rattle.questions.specs.Words.{core_size, core_me, core_failed}
use Rattle.questions.specs.Replies.{reply_with, added}
use Rattle.questions.proofs.Knowing.{found_at, stood, event_known}
use Rattle.questions.proofs.Slots.{are_still}
use Rattle.questions.proofs.Core.hear_into.Goals as goal

pub hear_into-requires-clause-question : goal.hear_into-requires-clause-question
hear_into-requires-clause-question c =
    let i = c.self.inside in
    let one = c.index_mut.result.now in
    let there : slice_get i.instances.items c.from.result ≡ Some one =
    found_at i.size i.me i.instances.items i.failed c.args.self.now c.from.result c.question-question.result (c.args.from ∷ c.origin.result ∷ []) one c.self.view_is c.self.invariant c.in_default.ensures c.from.ensures c.index_mut.ensures.value in
    let asked : c.from.result ≡ c.args.s.now.place.question = c.from.ensures ∙ c.question-question.ensures ∙ ap (λ (p : Place). p.question) c.place.ensures in
    sym ((c.self.invariant.each c.from.result one there).its_question ∙ asked)

pub invariant_of-self : goal.invariant_of-self
invariant_of-self c =
    let i = c.self.inside in
    let one = c.index_mut.result.now in
    let there : slice_get i.instances.items c.from.result ≡ Some one =
    found_at i.size i.me i.instances.items i.failed c.args.self.now c.from.result c.question-question.result (c.args.from ∷ c.origin.result ∷ []) one c.self.view_is c.self.invariant c.in_default.ensures c.from.ensures c.index_mut.ensures.value in
    let e = c.in-Ok.ensures in
    are_still i.size i.me c.from.result i.instances.items one c.hear_into.new.self there c.self.invariant e.size e.me e.question

pub invariant_of-self-in-Err : goal.invariant_of-self-in-Err
invariant_of-self-in-Err c =
    let i = c.self.inside in
    let one = c.index_mut.result.now in
    let there : slice_get i.instances.items c.from.result ≡ Some one =
    found_at i.size i.me i.instances.items i.failed c.args.self.now c.from.result c.question-question.result (c.args.from ∷ c.origin.result ∷ []) one c.self.view_is c.self.invariant c.in_default.ensures c.from.ensures c.index_mut.ensures.value in
    let e = c.in-Err.ensures in
    are_still i.size i.me c.from.result i.instances.items one c.hear_into.new.self there c.self.invariant e.size e.me e.question

pub returns-in-Ok-clause-answer : goal.returns-in-Ok-clause-answer
unfolding core_failed
returns-in-Ok-clause-answer c =
    let i = c.self.inside in
    let one = c.index_mut.result.now in
    let there : slice_get i.instances.items c.from.result ≡ Some one =
    found_at i.size i.me i.instances.items i.failed c.args.self.now c.from.result c.question-question.result (c.args.from ∷ c.origin.result ∷ []) one c.self.view_is c.self.invariant c.in_default.ensures c.from.ensures c.index_mut.ensures.value in
    let asked : c.from.result ≡ c.args.s.now.place.question = c.from.ensures ∙ c.question-question.ensures ∙ ap (λ (p : Place). p.question) c.place.ensures in
    let e = c.in-Ok.ensures in
    record {
      is_reply = λ records heard knows.
          e.reply (past_of (core_size c.args.self.now) (core_me c.args.self.now) c.args.s.now.place.question records heard)
          (stood c.args.self.now i.size i.me i.instances.items i.failed c.from.result c.args.s.now.place.question one records heard c.self.view_is there asked knows);
      knows = λ records heard knows.
          event_known c.args.self.now i.size i.me i.instances.items i.failed c.from.result one c.hear_into.new.self records heard
          c.args.toss.0 (Hearing c.args.from c.args.s.now) (reply_with c.in-Ok.heard (added c.args.batch.now.items c.hear_into.new.batch.items)) c.self.view_is there asked e.reply e.stands knows;
      few = search rules;
      asked = search rules;
      up = search rules;
    }

pub returns-in-Err-clause-memory_only_at_news : goal.returns-in-Err-clause-memory_only_at_news
returns-in-Err-clause-memory_only_at_news c is records heard knows =
    let i = c.self.inside in
    let one = c.index_mut.result.now in
    let there : slice_get i.instances.items c.from.result ≡ Some one =
    found_at i.size i.me i.instances.items i.failed c.args.self.now c.from.result c.question-question.result (c.args.from ∷ c.origin.result ∷ []) one c.self.view_is c.self.invariant c.in_default.ensures c.from.ensures c.index_mut.ensures.value in
    let asked : c.from.result ≡ c.args.s.now.place.question = c.from.ensures ∙ c.question-question.ensures ∙ ap (λ (p : Place). p.question) c.place.ensures in
    c.in-Err.ensures.err_only_at_news (past_of (core_size c.args.self.now) (core_me c.args.self.now) c.args.s.now.place.question records heard)
    (stood c.args.self.now i.size i.me i.instances.items i.failed c.from.result c.args.s.now.place.question one records heard c.self.view_is there asked knows)
