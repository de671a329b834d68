use Rattle.std.proofs.Common.{not, ap, rules}
use Rattle.std.proofs.lemmas.List.Quantifiers.{position-Some}
use Rattle.epochs.specs.Asking.{is_ask}
use Rattle.epochs.proofs.Standing.{contains-heard, filter-heard}
use Rattle.epochs.proofs.AskLemmas.{is_ask-same}
use Rattle.epochs.proofs.asks.Asks.hear_again.Goals as goal

pub returns-clause-again : goal.returns-clause-again
returns-clause-again c =
    let asks = c.args.self.now in
    let found = position-Some (is_ask c.args.ask) asks.list.items c.args.at c.args.ask c.requires in
    search (rules, contains-heard asks.list.items asks.heard.items c.args.at c.args.ask asks.second found.0 asks.paired (is_ask-same _ _ found.1))

pub returns-clause-others : goal.returns-clause-others
returns-clause-others c =
    let asks = c.args.self.now in
    let found = position-Some (is_ask c.args.ask) asks.list.items c.args.at c.args.ask c.requires in
    search (rules, filter-heard (λ one. not (is_ask c.args.ask one)) asks.list.items asks.heard.items c.args.at asks.second c.args.ask (ap not found.1) found.0)
