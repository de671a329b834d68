use Rattle.std.proofs.Common.{sym}
use Rattle.epochs.proofs.Forgetting.{forgotten, kept}
use Rattle.epochs.proofs.AskLemmas.{few-removed}
use Rattle.epochs.proofs.asks.Asks.forget_at.Goals as goal

pub invariant_of-self-clause-few : goal.invariant_of-self-clause-few
invariant_of-self-clause-few c = few-removed c.args.self.now.list.items _ c.args.at c.requires c.args.self.now.few c.remove.ensures.items

pub returns-then-takes-clause-asks : goal.returns-then-takes-clause-asks
returns-then-takes-clause-asks c =
    let asks = c.args.self.now in
    forgotten asks.list.items asks.heard.items c.args.at c.requires asks.paired _ _ c.index.ensures c.index-2.ensures c.args.gone (sym c.if-takes.ensures)
    c.remove.ensures.items c.remove-then-takes.ensures.items

pub returns-else-takes-clause-asks : goal.returns-else-takes-clause-asks
returns-else-takes-clause-asks c =
    let asks = c.args.self.now in
    kept asks.list.items asks.heard.items c.args.at c.requires asks.paired _ _ c.index.ensures c.index-2.ensures c.args.gone (sym c.if-takes.ensures)
