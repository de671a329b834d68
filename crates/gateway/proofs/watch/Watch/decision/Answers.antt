use Rattle.std.proofs.Common.{None, Some, subst}
use Rattle.terms_prelude.specs.Terms.{Size}
use Rattle.client.specs.Readings.{DecidesBy}
use Rattle.gateway.specs.Watches.{Watches, watch_first, watch_size, words_on}
use Rattle.gateway.proofs.Keeping.{kept_found, undecided}
use Rattle.gateway.proofs.watch.Watch.decision.Goals as goal

pub returns-in-Some-clause-decides : goal.returns-in-Some-clause-decides
unfolding Watches watch_first watch_size
returns-in-Some-clause-decides c = λ heard watches from.
    let kept = kept_found c.args.self.now.scope.size c.args.self.now.first c.args.question c.args.self.now.readings.items heard (Some c.in-Some.reading)
    from c.in-Some.ensures.kept watches.each in
    subst (λ (size : Size). DecidesBy size (words_on c.args.question heard) c.decision.result) kept.1
    (c.decision.ensures (words_on c.args.question heard) kept.0)

pub returns-in-None-clause-decides : goal.returns-in-None-clause-decides
unfolding Watches watch_first watch_size
returns-in-None-clause-decides c = λ heard watches from bit enough.
    let none = kept_found c.args.self.now.scope.size c.args.self.now.first c.args.question c.args.self.now.readings.items heard None
    from c.in-None.ensures.kept watches.each in
    undecided c.args.self.now.scope.size (words_on c.args.question heard) bit none enough
