use Rattle.std.proofs.Common.{◌≡◌, ◌≤◌, ℕ, false, true, sym, subst}
use Rattle.gateway.proofs.Cuts.{never, same_first, same_second}
use Rattle.gateway.proofs.queries.named_range.Goals as goal

pub returns-else-are_within-clause-none : goal.returns-else-are_within-clause-none
returns-else-are_within-clause-none c = λ none from to named.
    let is = c.in-Some.ensures.exact from to named.0 in
    let from_is : c.in-Some.from ≡ from = same_first _ _ _ _ is in
    let to_is : c.in-Some.to ≡ to = same_second _ _ _ _ is in
    let within : false ≡ true = c.if-are_within.ensures.1 (
      subst (λ (x : ℕ). x ≤ c.in-Some.to) (sym from_is) (subst (λ (x : ℕ). from ≤ x) (sym to_is) named.1),
      subst (λ (x : ℕ). x ≤ c.args.questions) (sym to_is) named.2,
    ) in
    cc

pub returns-in-None-clause-none : goal.returns-in-None-clause-none
returns-in-None-clause-none c = λ none from to named. never (from, to) (c.in-None.ensures.exact from to named.0)
