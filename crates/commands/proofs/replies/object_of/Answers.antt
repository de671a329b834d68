use Rattle.std.proofs.Common.{rules}
use Rattle.commands.proofs.Counting.{no_reply_else}
use Rattle.commands.proofs.replies.object_of.Goals as goal

pub returns-in-None-clause-none : goal.returns-in-None-clause-none
returns-in-None-clause-none c = no_reply_else c.unlinked_object.result c.args.reply.now c.in-None.ensures.exact c.unlinked_object.ensures.none
