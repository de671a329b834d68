use Rattle.std.proofs.Common.{List, ℕ, subst, sym}
use Rattle.gateway.specs.Replies.{AreLinks}
use Rattle.gateway.proofs.Cuts.{never}
use Rattle.gateway.proofs.replies.links_reply.Goals as goal

pub returns-in-None-two_links-clause-none : goal.returns-in-None-two_links-clause-none
returns-in-None-two_links-clause-none c = λ none coming going is.
    never (coming, going) (c.in-None-two_links.ensures.exact coming going
    (subst (λ (words : List ℕ). AreLinks words coming going) (sym (c.in-Some.ensures.exact is.0 is.1)) is.2))
