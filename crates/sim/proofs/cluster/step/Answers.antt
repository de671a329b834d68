use Rattle.std.proofs.Common.{sym, ap, ◌∙◌}
use Rattle.sim.specs.declared.events.Event.{Event}
use Rattle.sim.specs.declared.tasks.Way.{Way}
use Rattle.sim.specs.Words.{Deliver, plan_of}
use Rattle.sim.proofs.cluster.step.Goals as goal

pub returns-in-Deliver-clause-turn : goal.returns-in-Deliver-clause-turn
returns-in-Deliver-clause-turn c liars s lawful steady cluster =
    c.carry_out.ensures.turn liars s lawful steady cluster
    (c.delivery-planned.ensures.plan liars s cluster
    ∙ ap (λ (w : Way). plan_of c.args.size liars s (Deliver w.from w.to c.in-Deliver.which w.toss)) c.way_of.ensures
    ∙ ap (λ (e : Event). plan_of c.args.size liars s e) (sym c.in-Deliver.is))

pub returns-in-Deliver-clause-memory : goal.returns-in-Deliver-clause-memory
returns-in-Deliver-clause-memory c liars s lawful steady cluster =
    c.carry_out.ensures.memory liars s lawful steady cluster
    (c.delivery-planned.ensures.plan liars s cluster
    ∙ ap (λ (w : Way). plan_of c.args.size liars s (Deliver w.from w.to c.in-Deliver.which w.toss)) c.way_of.ensures
    ∙ ap (λ (e : Event). plan_of c.args.size liars s e) (sym c.in-Deliver.is))

pub returns-in_default-clause-turn : goal.returns-in_default-clause-turn
returns-in_default-clause-turn c liars s lawful steady cluster =
    c.carry_out-in_default.ensures.turn liars s lawful steady cluster (c.plan-planned.ensures.plan liars s cluster)

pub returns-in_default-clause-memory : goal.returns-in_default-clause-memory
returns-in_default-clause-memory c liars s lawful steady cluster =
    c.carry_out-in_default.ensures.memory liars s lawful steady cluster (c.plan-planned.ensures.plan liars s cluster)
