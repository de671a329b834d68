use Rattle.std.proofs.Common.{rules}
use Rattle.commands.proofs.Counting.{is_epochs}
use Rattle.commands.proofs.closing.has_epochs.Goals as goal

pub returns : goal.returns
returns c = rw c.is_some.ensures (is_epochs c.closing_of.result c.args.reply.now c.closing_of.ensures.some c.closing_of.ensures.exact)
