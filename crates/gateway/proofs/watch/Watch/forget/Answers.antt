use Rattle.std.proofs.Common.{◌≡◌, ◌-◌, ◌∙◌, List, drop, false, length, rules, slice_get, sym, subst, true}
use Rattle.client.specs.declared.reading.Reading.{Reading}
use Rattle.gateway.specs.Watches.{IsKept, Watches, watch_first, watch_scope}
use Rattle.gateway.proofs.Keeping.{kept_passed}
use Rattle.gateway.proofs.watch.Watch.forget.Goals as goal

pub returns-clause-words : goal.returns-clause-words
unfolding Watches watch_first watch_scope
returns-clause-words c = λ chain heard watches.
    let rest : c.from_place-rest.result.now ≡ drop (c.args.first - c.args.self.now.first) c.args.self.now.readings.items = search rules in
    let all : length c.in_ok-self.field-0.items ≡ length c.args.self.now.readings.items = search (rules, c.in_ok-self.ensures.all) in
    record {
      all = all ∙ watches.all;
      still = λ cluster. absurd (let no : true ≡ false = sym chain ∙ cluster in cc);
      each = kept_passed c.args.self.now.scope.size c.args.self.now.first c.args.first c.args.self.now.readings.items c.in_ok-self.field-0.items heard
          c.requires
          (λ place words kept. c.in_ok-self.ensures.kept place words
          (subst (λ (l : List Reading). IsKept c.args.self.now.scope.size (slice_get l place) words) (sym rest) kept))
          watches.each;
    }
