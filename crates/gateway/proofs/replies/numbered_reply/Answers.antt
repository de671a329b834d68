use Rattle.std.proofs.Common.{refl}
use Rattle.gateway.proofs.replies.numbered_reply.Goals as goal

pub returns-in-None-links_reply-clause-none : goal.returns-in-None-links_reply-clause-none
returns-in-None-links_reply-clause-none c = λ none. record {
  decided = c.in-None.ensures.none refl;
  up = c.in-None-up_reply.ensures.none refl;
  links = c.in-None-links_reply.ensures.none refl;
  epochs = c.epochs_reply.ensures.none none;
}
