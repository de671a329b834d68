use Rattle.std.proofs.Common.{◌≡◌, ◌<◌, ◌+◌, ℕ, Bool, Option, List, refl, rules, sym, subst, arith, length, slice_get}
use Rattle.std.proofs.lemmas.Option.{slice_get_read}
use Rattle.terms_prelude.specs.Terms.{Size}
use Rattle.gateway.specs.Scopes.{window_length}
use Rattle.gateway.specs.Watches.{AreContradictions, ContradictsOn, Watches, watch_first, watch_scope, watch_size, words_on}
use Rattle.gateway.proofs.Keeping.{contradictions_more, kept_at, none_found}
use Rattle.gateway.proofs.watch.Watch.contradictions.Goals as goal

pub loop-place-init : goal.loop-place-init
loop-place-init c = λ heard watches few.
    subst (λ (found : List (Option Bool)). AreContradictions (watch_size c.args.self.now) heard c.args.member (watch_first c.args.self.now) 0 found)
    (sym c.new-found.ensures.items) (none_found (watch_size c.args.self.now) heard c.args.member (watch_first c.args.self.now))

pub loop-place-preserved : goal.loop-place-preserved
unfolding Watches watch_first watch_size
loop-place-preserved c = λ heard watches few.
    let within : c.loop-place.place < length c.args.self.now.readings.items = search (rules, c.loop-place-test.true, c.len-place-end.ensures) in
    let was = slice_get_read c.args.self.now.readings.items (length c.args.self.now.readings.items) c.loop-place.place c.index.result.now refl within
    c.index.ensures in
    let kept = kept_at c.args.self.now.scope.size (slice_get c.args.self.now.readings.items c.loop-place.place) c.index.result.now
    (words_on (c.args.self.now.first + c.loop-place.place) heard) was (watches.each c.loop-place.place) in
    let contradicts = subst (λ (size : Size). ContradictsOn size (words_on (c.args.self.now.first + c.loop-place.place) heard) c.args.member c.contradiction_on.result)
    kept.1 (c.contradiction_on.ensures (words_on (c.args.self.now.first + c.loop-place.place) heard) kept.0 few) in
    subst (λ (found : List (Option Bool)). AreContradictions c.args.self.now.scope.size heard c.args.member c.args.self.now.first (c.loop-place.place + 1) found)
    (sym c.in_ok-push.ensures.items)
    (contradictions_more c.args.self.now.scope.size heard c.args.member c.args.self.now.first c.loop-place.place c.loop-place.found.items c.contradiction_on.result
    (c.loop-place.invariant heard watches few) contradicts)

pub returns : goal.returns
unfolding Watches watch_first watch_scope watch_size
returns c = λ heard watches few.
    let count : c.loop-place.place ≡ window_length c.args.self.now.scope = omega (arith, c.loop-place-test.false, c.loop-place.auto.place-end, c.len-place-end.ensures, watches.all) in
    subst (λ (n : ℕ). AreContradictions c.args.self.now.scope.size heard c.args.member c.args.self.now.first n c.loop-place.found.items) count
    (c.loop-place.invariant heard watches few)
