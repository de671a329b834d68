use Rattle.std.proofs.Common.{rules}
use Rattle.commands.proofs.Counting.{epochs_behind}
use Rattle.commands.proofs.closing.closing_of.Goals as goal

pub returns-in-Some-clause-exact : goal.returns-in-Some-clause-exact
returns-in-Some-clause-exact c = λ epochs has. c.closing_in.ensures.exact epochs (epochs_behind c.args.reply.now c.in-Some.words.now epochs c.in-Some.ensures.some has)

pub returns-in-None-clause-exact : goal.returns-in-None-clause-exact
returns-in-None-clause-exact c = λ epochs has. absurd (c.in-None.ensures.exact has.0 has.1)
