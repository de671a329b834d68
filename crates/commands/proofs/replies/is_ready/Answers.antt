use Rattle.std.proofs.Common.{rules}
use Rattle.commands.proofs.Counting.{is_ready, is_unready}
use Rattle.commands.proofs.replies.is_ready.Goals as goal

pub returns-in-Some : goal.returns-in-Some
returns-in-Some c = is_ready c.in-Some.links c.args.reply.now c.are_enough.result c.in-Some.ensures.some c.in-Some.ensures.exact c.are_enough.ensures

pub returns-in-None : goal.returns-in-None
returns-in-None c = is_unready c.args.reply.now c.in-None.ensures.exact
