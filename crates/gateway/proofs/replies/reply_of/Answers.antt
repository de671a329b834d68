use Rattle.std.proofs.Common.{inr, refl}
use Rattle.gateway.proofs.Words.{nothing}
use Rattle.gateway.proofs.replies.reply_of.Goals as goal

pub returns-in-None-short_reply : goal.returns-in-None-short_reply
returns-in-None-short_reply c = inr (refl, nothing c.args.line.now (c.in-None.ensures.none refl) (c.in-None-short_reply.ensures.none refl))
