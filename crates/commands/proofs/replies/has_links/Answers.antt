use Rattle.std.proofs.Common.{rules}
use Rattle.commands.proofs.Counting.{is_links}
use Rattle.commands.proofs.replies.has_links.Goals as goal

pub returns : goal.returns
returns c = rw c.is_some.ensures (is_links c.links_of.result c.args.reply.now c.links_of.ensures.some c.links_of.ensures.exact)
