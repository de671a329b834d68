use Rattle.std.proofs.Common.{subst}
use Rattle.sim.specs.Words.{Instruction, CanBeDone, IsGroupFor}
use Rattle.sim.proofs.posts.Post.carry.Goals as goal

pub returns-in-Propose-clause-memory : goal.returns-in-Propose-clause-memory
returns-in-Propose-clause-memory c size liars s p lawful below post fits brings may =
    c.propose.ensures.memory size liars s p lawful below post (subst (λ (told : Instruction). CanBeDone size liars s p told) c.in-Propose.is fits) may

pub returns-in-Deliver-clause-memory : goal.returns-in-Deliver-clause-memory
returns-in-Deliver-clause-memory c size liars s p lawful below post fits brings may =
    c.deliver.ensures.memory size liars s p lawful below post (subst (λ (told : Instruction). CanBeDone size liars s p told) c.in-Deliver.is fits) may

pub returns-in-Lie-clause-memory : goal.returns-in-Lie-clause-memory
returns-in-Lie-clause-memory c size liars s p lawful below post fits brings may =
    c.hear_lies.ensures.memory size liars s p lawful below post (subst (λ (told : Instruction). CanBeDone size liars s p told) c.in-Lie.is fits) may

pub returns-in-DeliverAll-clause-memory : goal.returns-in-DeliverAll-clause-memory
returns-in-DeliverAll-clause-memory c size liars s p lawful below post fits brings may =
    c.deliver_all.ensures.memory size liars s p c.in-DeliverAll.field-1 lawful below post (subst (λ (told : Instruction). CanBeDone size liars s p told) c.in-DeliverAll.is fits)
    (subst (λ (told : Instruction). IsGroupFor s p told c.args.group.now) c.in-DeliverAll.is brings) may

pub returns-in-DeliverAll-clause-done : goal.returns-in-DeliverAll-clause-done
returns-in-DeliverAll-clause-done c size liars s p lawful below post fits brings =
    rw c.in-DeliverAll.is (c.deliver_all.ensures.done size liars s p c.in-DeliverAll.field-1 lawful below post (subst (λ (told : Instruction). CanBeDone size liars s p told) c.in-DeliverAll.is fits)
    (subst (λ (told : Instruction). IsGroupFor s p told c.args.group.now) c.in-DeliverAll.is brings) c.args.bytes.now)
