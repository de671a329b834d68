use Rattle.std.proofs.Common.{◌≡◌, length, refl, ap, ◌∙◌}
use Rattle.terms_prelude.specs.Terms.{Header}
use Rattle.sim.proofs.Done.{reset_done}
use Rattle.sim.proofs.posts.Post.reset.Goals as goal

pub returns-clause-done : goal.returns-clause-done
returns-clause-done c size liars s p lawful below post fits bytes =
    let len : length c.args.self.now.incoming.items ≡ size.n = c.requires.ready.wide ∙ ap (λ (h : Header). h.size.n) post.header in
    reset_done size liars s p c.args.self.now post below c.args.from bytes _ c.from.result c.begin_anew.new.self len fits c.from.ensures
    c.begin_anew.ensures.place (c.begin_anew.ensures.size ∙ c.size.ensures ∙ ap (λ (h : Header). h.size) post.header) c.begin_anew.ensures.end refl refl refl refl
