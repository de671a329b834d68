use Rattle.std.proofs.Common.{rules}
use Rattle.commands.proofs.Counting.{counts_behind}
use Rattle.commands.proofs.replies.counts.Goals as goal

pub returns-in-Some-clause-exact : goal.returns-in-Some-clause-exact
returns-in-Some-clause-exact c = λ m d has. c.two_counts.ensures.exact m d (counts_behind c.args.reply.now c.in-Some.words.now m d c.in-Some.ensures.some has)

pub returns-in-None-clause-exact : goal.returns-in-None-clause-exact
returns-in-None-clause-exact c = λ m d has. absurd (c.in-None.ensures.exact has.0 has.1)
