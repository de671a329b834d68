use Rattle.std.proofs.Common.{◌≡◌, ◌+◌, ◌<◌, ℕ, Err, List, length, subst, arith, rules}
use Rattle.terms_prelude.specs.Terms.{Statement}
use Rattle.transcripts.specs.Rests.{EndsAt}
use Rattle.transcripts.proofs.Rests.{one_read, one_too_many}
use Rattle.transcripts.proofs.audit.read_pairs.Goals as goal

pub returns-else-is_empty-clause-line : goal.returns-else-is_empty-clause-line
returns-else-is_empty-clause-line c = λ number is.
    let same : c.loop-number.number ≡ number = cc in
    let full : length c.loop-number.pairs.items ≡ c.args.count = omega (arith, c.loop-number.invariant.number_is, c.if-number-count.true) in
    let some : length c.loop-number.rest.now ≡ 0 → ⊥ = search rules in
    subst (λ (n : ℕ). EndsAt c.args.size c.args.count c.args.text.now n) same
    (one_too_many c.args.size c.args.count c.args.text.now c.loop-number.pairs.items c.loop-number.rest.now c.loop-number.number c.loop-number.invariant full some)

pub loop-number-preserved : goal.loop-number-preserved
loop-number-preserved c =
    let few : length c.loop-number.pairs.items < c.args.count = omega (arith, c.loop-number.invariant.number_is, c.loop-number.invariant.few, c.if-number-count.false) in
    one_read c.args.size c.args.count c.args.text.now c.loop-number.pairs.items c.push.new.self.items c.loop-number.rest.now c.cut_line.result.0.now c.cut_line.result.1.now c.loop-number.number
    c.in-Some.pair c.loop-number.invariant c.cut_line.ensures c.in-Some.ensures.some.0 c.in-Some.ensures.some.1 few c.in_ok-push.ensures.items
