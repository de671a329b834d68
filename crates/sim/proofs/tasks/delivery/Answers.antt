use Rattle.std.proofs.Common.{ℕ, List, sym, ap, ◌∙◌}
use Rattle.terms_prelude.specs.Terms.{Record}
use Rattle.sim.specs.Scene.{delivery_of}
use Rattle.sim.proofs.Planned.{told_of, open_plan, closed_plan}
use Rattle.sim.proofs.tasks.delivery.Goals as goal

pub returns-in-Ok-clause-plan : goal.returns-in-Ok-clause-plan
returns-in-Ok-clause-plan c liars s cluster =
    let t = told_of c.args.size liars s c.args.posts.now c.from.result c.args.way.from c.args.way.to c.in-Ok.place c.index-posts-from.result c.from.ensures c.index-posts-from.is cluster
    (sym (c.link_place.ensures.place liars s cluster) ∙ c.in-Ok.is) in
    c.outgoing.ensures.plan
    ∙ ap (λ (r : List Record). delivery_of r c.in-Ok.place c.args.way.from c.args.way.to c.args.which c.args.way.toss) t.saved
    ∙ ap (λ (k : ℕ). delivery_of (s.world.journal c.args.way.from) k c.args.way.from c.args.way.to c.args.which c.args.way.toss) t.place_is
    ∙ sym (open_plan c.args.size liars s.world c.args.way.from c.args.way.to _ t.may_come)

pub returns-in-Err-clause-plan : goal.returns-in-Err-clause-plan
returns-in-Err-clause-plan c liars s cluster =
    sym (closed_plan c.args.size liars s.world c.args.way.from c.args.way.to (s.place c.args.way.from c.args.way.to) c.in-Err.reason _ (sym (c.link_place.ensures.place liars s cluster) ∙ c.in-Err.is))
