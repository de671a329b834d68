use Rattle.std.proofs.Common.{subst}
use Rattle.commands.specs.Replies.{IsReplyLine}
use Rattle.commands.proofs.client.exchange.Goals as goal

pub returns-then-is_reply : goal.returns-then-is_reply
returns-then-is_reply g c = (
  c.in_ok-reply.ensures.0,
  subst IsReplyLine c.deref.ensures.value (c.is_reply.ensures.0 c.if-is_reply.true),
  c.in_ok-send.ensures.sent,
  c.in_ok-reply.ensures.1,
)
