use Rattle.std.proofs.Common.{rules, ap₂, Some, ◌∙◌}
use Rattle.commands.proofs.Counting.{cut_counts, never, no_counts, one_is}
use Rattle.commands.proofs.replies.two_counts.Goals as goal

pub returns-in_default-clause-exact : goal.returns-in_default-clause-exact
returns-in_default-clause-exact c = λ m d are. absurd (no_counts c.args.words.now m d c.in_default.ensures are)

pub returns-in_default-count-clause-exact : goal.returns-in_default-count-clause-exact
returns-in_default-count-clause-exact c = λ m d are.
    let cut = cut_counts c.args.words.now c.in-Some.first.now c.in-Some.second.now m d c.in-Some.ensures.0 c.in-Some.ensures.1 are in
    absurd (never c.count.result m c.in_default-count.is (c.count.ensures.exact m cut.0))

pub returns-in_default-count-2-clause-exact : goal.returns-in_default-count-2-clause-exact
returns-in_default-count-2-clause-exact c = λ m d are.
    let cut = cut_counts c.args.words.now c.in-Some.first.now c.in-Some.second.now m d c.in-Some.ensures.0 c.in-Some.ensures.1 are in
    absurd (never c.count-2.result d c.in_default-count-2.is (c.count-2.ensures.exact d cut.1))

pub returns-clause-exact : goal.returns-clause-exact
returns-clause-exact c = λ m d are.
    let cut = cut_counts c.args.words.now c.in-Some.first.now c.in-Some.second.now m d c.in-Some.ensures.0 c.in-Some.ensures.1 are in
    let first = one_is c.count.result _ m c.in-Some-count.is (c.count.ensures.exact m cut.0) in
    let second = one_is c.count-2.result _ d c.in-Some-count-2.is (c.count-2.ensures.exact d cut.1) in
    ap₂ (λ a b. Some (a, b)) first second
