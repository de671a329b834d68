use Rattle.std.proofs.Common.{rules}
use Rattle.epochs.proofs.AskLemmas.{not_placed}
use Rattle.epochs.proofs.asks.Asks.hear.Goals as goal

pub returns-in-None-clause-again : goal.returns-in-None-clause-again
returns-in-None-clause-again c = λ has. absurd (not_placed c.args.self.now.list.items c.args.ask (search rules) has)
