use Rattle.std.proofs.Common.{◌≡◌, ◌<◌, ℕ, true, false, [], Ok, sym, ap, ◌∙◌, arith}
use Rattle.terms_prelude.specs.Terms.{is_none}
use Rattle.wire.specs.Reading.{Rest}
use Rattle.sim.specs.declared.links.Link.{Link}
use Rattle.sim.proofs.Planned.{post_at, up_is, open_plan}
use Rattle.sim.proofs.tasks.link_place.Goals as goal

pub returns-clause-place : goal.returns-clause-place
returns-clause-place c liars s cluster =
    let lf : c.args.from < c.args.size.n = omega (arith, c.n.ensures.value, c.if-from-n.false) in
    let lt : c.args.to < c.args.size.n = omega (arith, c.n-else-from-n.ensures.value, c.if-to-n.false) in
    let receiver = post_at c.args.size liars s c.args.posts.now c.from.result c.args.to c.index-posts-from.result c.from.ensures c.index-posts-from.is lt cluster in
    let sender = post_at c.args.size liars s c.args.posts.now c.from-2.result c.args.from c.index-posts-from-2.result c.from-2.ensures c.index-posts-from-2.is lf cluster in
    let hf : liars c.args.from ≡ false = sym sender.side ∙ sym c.if-is_liar.ensures in
    let ht : liars c.args.to ≡ false = sym receiver.side ∙ sym c.if-is_liar-2.ensures in
    let up : is_none (s.world.doubt c.args.to) ≡ true = sym (up_is c.args.size c.args.to s.world c.index-posts-from.result.presence (receiver.at ht)) ∙ sym c.if-not-is_up.ensures in
    let any : Link = record { place = 0; size = c.args.size; end = Rest [] } in
    let place : c.place.result ≡ s.place c.args.from c.args.to = c.place.ensures any ∙ (receiver.links c.args.from any lf).place_is in
    ap (λ (k : ℕ). Ok k) place
    ∙ sym (open_plan c.args.size liars s.world c.args.from c.args.to _ (record { sender = lf; receiver = lt; honest = hf; correct = ht; up = up }))
