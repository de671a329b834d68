use Rattle.std.proofs.Common.{◌≡◌, ℕ, Bool, List, None, Some, refl, subst, sym}
use Rattle.client.specs.Readings.{first_word}
use Rattle.gateway.specs.Watches.{Watches, watch_first, words_on}
use Rattle.gateway.proofs.Keeping.{kept_found}
use Rattle.gateway.proofs.watch.Watch.word_of.Goals as goal

pub returns-in-Some-clause-told : goal.returns-in-Some-clause-told
unfolding Watches watch_first
returns-in-Some-clause-told c = λ heard watches from few.
    let kept = kept_found c.args.self.now.scope.size c.args.self.now.first c.args.question c.args.self.now.readings.items heard (Some c.in-Some.reading)
    from c.in-Some.ensures.kept watches.each in
    c.word_of.ensures (words_on c.args.question heard) kept.0 few

pub returns-in-None-clause-told : goal.returns-in-None-clause-told
unfolding Watches watch_first
returns-in-None-clause-told c = λ heard watches from few.
    let none = kept_found c.args.self.now.scope.size c.args.self.now.first c.args.question c.args.self.now.readings.items heard None
    from c.in-None.ensures.kept watches.each in
    subst (λ (words : List (ℕ × Bool)). None ≡ first_word words c.args.member) (sym none) refl
