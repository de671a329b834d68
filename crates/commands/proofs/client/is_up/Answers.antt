use Rattle.std.proofs.Common.{rules}
use Rattle.commands.proofs.Counting.{is_up}
use Rattle.commands.proofs.client.is_up.Goals as goal

pub returns : goal.returns
returns c = rw c.is_some.ensures (is_up c.counts.result c.args.reply.now c.counts.ensures.some c.counts.ensures.exact)
