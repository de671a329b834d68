use Rattle.std.proofs.Common.{IfOk, sym, subst}
use Rattle.sim.specs.Words.{Instruction, CanBeDone, IsGroupFor}
use Rattle.sim.proofs.Planned.{brought_is}
use Rattle.sim.proofs.tasks.brought.Goals as goal

pub returns-in-DeliverAll-clause-brings : goal.returns-in-DeliverAll-clause-brings
returns-in-DeliverAll-clause-brings c liars s cluster fits =
    subst (λ (told : Instruction). IfOk c.group.result (IsGroupFor s c.args.to told)) (sym c.in-DeliverAll.is)
    (brought_is c.args.size liars s c.args.posts.now c.args.to c.in-DeliverAll.from c.in-DeliverAll.count c.in-DeliverAll.field-2 c.from.result c.from-in-DeliverAll.result c.place-place.result
    c.index-posts-from.result c.index-posts-from-in-DeliverAll.result c.group.result cluster c.requires.within.0
    (subst (λ (told : Instruction). CanBeDone c.args.size liars s c.args.to told) c.in-DeliverAll.is fits)
    c.from.ensures c.index-posts-from.is c.from-in-DeliverAll.ensures c.index-posts-from-in-DeliverAll.is c.place-place.ensures c.group.ensures.statements c.group.ensures.place)
