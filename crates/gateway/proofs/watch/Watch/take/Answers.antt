use Rattle.std.proofs.Common.{◌≡◌, ◌<◌, ◌≤◌, ◌+◌, ◌-◌, ◌∙◌, refl, subst, arith, length, slice_get, length-set, rules}
use Rattle.std.proofs.lemmas.Option.{slice_get_read}
use Rattle.terms_prelude.specs.Terms.{Size}
use Rattle.gateway.specs.Scopes.{window_length}
use Rattle.gateway.specs.Watches.{Watches, watch_first, watch_scope, watch_size, words_on}
use Rattle.gateway.proofs.Keeping.{kept_at, kept_taken}
use Rattle.gateway.proofs.watch.Watch.take.Goals as goal

pub returns-clause-words : goal.returns-clause-words
unfolding Watches watch_first watch_size watch_scope
returns-clause-words c = λ yes heard watches.
    let from : c.args.self.now.first ≤ c.args.told.question = search rules in
    let here : c.args.told.question ≡ c.args.self.now.first + (c.args.told.question - c.args.self.now.first) = omega (arith, from) in
    let within : c.args.told.question - c.args.self.now.first < length c.args.self.now.readings.items = search rules in
    let was = slice_get_read c.args.self.now.readings.items (length c.args.self.now.readings.items) (c.args.told.question - c.args.self.now.first)
    c.index.result.now refl within c.index.ensures in
    record {
      all = length-set c.args.self.now.readings.items (c.args.told.question - c.args.self.now.first) c.take.new.self ∙ watches.all;
      still = watches.still;
      each = kept_taken c.args.self.now.scope.size c.args.self.now.first c.args.self.now.readings.items heard c.args.told
          (c.args.told.question - c.args.self.now.first) c.index.result.now c.take.new.self here was
          (c.if-not-take.ensures.words refl) c.if-not-take.ensures.size watches.each;
    }

pub returns-clause-taken : goal.returns-clause-taken
unfolding Watches watch_first watch_size watch_scope
returns-clause-taken c = λ heard watches.
    let from : c.args.self.now.first ≤ c.args.told.question = search rules in
    let within : c.args.told.question - c.args.self.now.first < length c.args.self.now.readings.items = search rules in
    let was = slice_get_read c.args.self.now.readings.items (length c.args.self.now.readings.items) (c.args.told.question - c.args.self.now.first)
    c.index.result.now refl within c.index.ensures in
    let kept = kept_at c.args.self.now.scope.size (slice_get c.args.self.now.readings.items (c.args.told.question - c.args.self.now.first)) c.index.result.now
    (words_on (c.args.self.now.first + (c.args.told.question - c.args.self.now.first)) heard) was
    (watches.each (c.args.told.question - c.args.self.now.first)) in
    let member : c.args.told.member < c.args.self.now.scope.size.n =
    subst (λ (s : Size). c.args.told.member < s.n) kept.1 (c.if-not-take.ensures.taken.0 refl) in
    let to : c.args.told.question < c.args.self.now.first + window_length c.args.self.now.scope = omega (arith, within, watches.all, from) in
    ((λ yes. (member, (from, to))), (λ both. refl))
