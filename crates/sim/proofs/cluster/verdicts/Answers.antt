use Rattle.std.proofs.Common.{◌<◌, ◌++◌, ◌∙◌, ℕ, List, refl, ap, arith}
use Rattle.terms_prelude.specs.Terms.{Record, decided}
use Rattle.sim.specs.Outcomes.{Verdict}
use Rattle.sim.proofs.Planned.{post_at}
use Rattle.sim.proofs.Verdicts.{verdicts_more, same_below}
use Rattle.sim.proofs.cluster.verdicts.Goals as goal

pub loop-post-preserved : goal.loop-post-preserved
loop-post-preserved c liars s cluster =
    let i = c.loop-post.post-index in
    let within : i < c.args.size.n = omega (arith, c.loop-post-test.true, c.requires.count) in
    let same = λ (q : ℕ). ap (λ (l : List Record). decided l q) c.deref.ensures.value ∙ c.in_ok-decisions.ensures.same q in
    verdicts_more c.args.size liars s i c.post-item.result c.questions.result c.me.result c.records.result.now c.loop-post.verdicts.items c.append_decisions.new.verdicts.items
    (post_at c.args.size liars s c.args.posts.now i i c.post-item.result refl c.post-item.is within cluster)
    c.me.ensures c.questions.ensures.value c.records.ensures (c.loop-post.invariant liars s cluster)
    (c.in_ok-append_decisions.ensures.appended
    ∙ ap (λ (l : List Verdict). c.loop-post.verdicts.items ++ l) (same_below c.questions.result c.me.result c.deref.result.now c.records.result.now same))
