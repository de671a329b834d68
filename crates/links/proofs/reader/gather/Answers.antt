use Rattle.links.specs.Tosses.{tosses_in}
use Rattle.links.proofs.Tossing.{some_on}
use Rattle.links.proofs.reader.gather.Goals as goal

pub returns-in_err-push_tossed-in-Statement-clause-spent : goal.returns-in_err-push_tossed-in-Statement-clause-spent
returns-in_err-push_tossed-in-Statement-clause-spent g c =
    some_on g.T.Tosser.may_toss c.args.tosser.now c.loop-message.tosser c.push_tossed.new.tosser (tosses_in c.loop-message.events.items, c.loop-message.invariant.1) c.push_tossed.ensures.spent

pub returns-in_err-push_each-in-Two-clause-spent : goal.returns-in_err-push_each-in-Two-clause-spent
returns-in_err-push_each-in-Two-clause-spent g c =
    some_on g.T.Tosser.may_toss c.args.tosser.now c.loop-message.tosser c.push_each.new.tosser (tosses_in c.loop-message.events.items, c.loop-message.invariant.1) c.push_each.ensures.spent
