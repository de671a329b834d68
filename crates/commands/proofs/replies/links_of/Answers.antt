use Rattle.std.proofs.Common.{rules}
use Rattle.commands.proofs.Counting.{links_behind}
use Rattle.commands.proofs.replies.links_of.Goals as goal

pub returns-in-Some-clause-exact : goal.returns-in-Some-clause-exact
returns-in-Some-clause-exact c = λ links has. c.four_counts.ensures.exact links (links_behind c.args.reply.now c.in-Some.words.now links c.in-Some.ensures.some has)

pub returns-in-None-clause-exact : goal.returns-in-None-clause-exact
returns-in-None-clause-exact c = λ links has. absurd (c.in-None.ensures.exact has.0 has.1)
