use Rattle.std.proofs.Common.{subst}
use Rattle.commands.specs.Closings.{IsAnswer}
use Rattle.commands.proofs.closing.fetch_epochs.Goals as goal

pub returns-then-is_answer : goal.returns-then-is_answer
returns-then-is_answer g c = (
  c.in_ok-reply.ensures.0,
  subst IsAnswer c.deref.ensures.value (c.is_answer.ensures.0 c.if-is_answer.true),
  c.in_ok-send.ensures.sent,
  c.in_ok-reply.ensures.1,
)
