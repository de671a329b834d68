use Rattle.std.proofs.Common.{◌≡◌, ◌<◌, length, get_or, refl, sym, ap, ◌∙◌, subst, arith}
use Rattle.terms_prelude.specs.Terms.{Header, Size}
use Rattle.sim.specs.Words.{Presence, is_liar, IsMove, Reopens, IsNewLink}
use Rattle.sim.proofs.Done.{reopen_done, reopen_failed}
use Rattle.sim.proofs.posts.Post.restart.Goals as goal

pub returns-in-Done-clause-done : goal.returns-in-Done-clause-done
returns-in-Done-clause-done c size liars s p lawful below post fits bytes =
    let len : length c.args.self.now.incoming.items ≡ size.n = c.requires.ready.wide ∙ ap (λ (h : Header). h.size.n) post.header in
    let move = c.in_ok-mark.ensures.moved size liars p s.world fits.1.0 (record { member = below; honest = fits.0 }) post.header fits.1.1 (post.at fits.0) in
    reopen_done size liars s p c.args.self.now post below bytes c.in_ok-mark.mark c.renew.new.self c.in-Done.is c.renew.ensures.header
    (ap is_liar c.renew.ensures.presence ∙ c.in_ok-mark.ensures.side) c.renew.ensures.fused fits.0
    (subst (λ (x : Presence). IsMove size liars p s.world (Reopens p c.args.self.now.fused c.in_ok-mark.mark) x) (sym c.renew.ensures.presence) move)
    (λ a x la.
    let within : a < length c.args.self.now.incoming.items = omega arith in
    subst (λ (z : Size). IsNewLink z (get_or c.renew.new.self.incoming.items a x)) (ap (λ (h : Header). h.size) post.header) (c.renew.ensures.links a x within))

pub returns-in_default : goal.returns-in_default
returns-in_default c = record {
  only = tt;
  ready = record { sound = c.open.ensures.sound; wide = c.requires.ready.wide };
  header = refl;
  done = λ size liars s p lawful below post fits bytes.
      reopen_failed size liars s p c.args.self.now post below bytes c.in_ok-mark.mark c.open.new.self c.in_default.not-Done c.in_ok-mark.ensures.side fits.0
      (c.in_ok-mark.ensures.moved size liars p s.world fits.1.0 (record { member = below; honest = fits.0 }) post.header fits.1.1 (post.at fits.0));
}
