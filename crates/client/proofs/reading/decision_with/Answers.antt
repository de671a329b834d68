use Rattle.std.proofs.Common.{◌≡◌, ◌<◌, ◌≤◌, ◌∙◌, ap, sym, rules, arith, true, false, Bool, Option, Some, None, nat_lt, if◌then◌else◌}
use Rattle.std.proofs.lemmas.Bool.Decides.{nat_tests}
use Rattle.client.specs.Readings.{decision_with, votes_for}
use Rattle.client.proofs.Told.{counted_for}
use Rattle.client.proofs.reading.decision_with.Goals as goal

pub returns-then-count-t : goal.returns-then-count-t
returns-then-count-t c =
    let many : c.t.result < c.count.result = search rules in
    let is : nat_lt c.args.size.t (votes_for c.args.size c.args.votes c.args.bit) ≡ true =
    counted_for c.args.size c.args.votes c.args.bit c.vote.result c.count.result c.vote.ensures c.count.ensures true (grind (arith, nat_tests, many, c.t.ensures.value)) in
    sym (ap (λ (d : Option Bool). decision_with c.args.size c.args.votes d c.args.bit) c.in-None.is
    ∙ ap (λ (b : Bool). if b then Some c.args.bit else None) is)

pub returns-else-count-t : goal.returns-else-count-t
returns-else-count-t c =
    let few : c.count.result ≤ c.t.result = search rules in
    let is : nat_lt c.args.size.t (votes_for c.args.size c.args.votes c.args.bit) ≡ false =
    counted_for c.args.size c.args.votes c.args.bit c.vote.result c.count.result c.vote.ensures c.count.ensures false (grind (arith, nat_tests, few, c.t.ensures.value)) in
    sym (ap (λ (d : Option Bool). decision_with c.args.size c.args.votes d c.args.bit) c.in-None.is
    ∙ ap (λ (b : Bool). if b then Some c.args.bit else None) is)
