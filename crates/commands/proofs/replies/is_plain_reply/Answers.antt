use Rattle.std.proofs.Common.{rules}
use Rattle.commands.proofs.Counting.{is_reply}
use Rattle.commands.proofs.replies.is_plain_reply.Goals as goal

pub returns : goal.returns
returns c = rw (c.is_some.ensures, c.is_some-2.ensures) (is_reply c.fixed_object-fixed.result c.counts-found.result c.args.line.now c.fixed_object-fixed.ensures.some c.fixed_object-fixed.ensures.none c.counts-found.ensures.some c.counts-found.ensures.exact)
