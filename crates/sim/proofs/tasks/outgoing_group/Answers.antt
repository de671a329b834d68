use Rattle.std.proofs.Common.{◌<◌, sym, ◌∙◌, arith}
use Rattle.sim.specs.Presences.{saved_in}
use Rattle.sim.proofs.Groups.{group_none, group_of_none}
use Rattle.sim.proofs.Planned.{some_group, no_group}
use Rattle.sim.proofs.tasks.outgoing_group.Goals as goal

pub returns-then-count-eq0-clause-plan : goal.returns-then-count-eq0-clause-plan
returns-then-count-eq0-clause-plan c =
    sym (no_group (saved_in c.args.sender.now.presence) c.args.place c.args.way.from c.args.way.to c.args.count c.args.way.toss
    (group_of_none (saved_in c.args.sender.now.presence) c.args.place c.args.count c.if-count-eq0.true))

pub returns-in-Some-clause-plan : goal.returns-in-Some-clause-plan
returns-in-Some-clause-plan c =
    let some : 0 < c.args.count = omega (arith, c.if-count-eq0.false) in
    sym (some_group (saved_in c.args.sender.now.presence) c.args.place c.args.way.from c.args.way.to c.args.count c.args.way.toss c.in-Some.field-0 (sym c.statement.ensures.said ∙ c.in-Some.is) some)

pub returns-in-None-clause-plan : goal.returns-in-None-clause-plan
returns-in-None-clause-plan c =
    sym (no_group (saved_in c.args.sender.now.presence) c.args.place c.args.way.from c.args.way.to c.args.count c.args.way.toss
    (group_none (saved_in c.args.sender.now.presence) c.args.place c.args.count (sym c.statement.ensures.said ∙ c.in-None.is)))
