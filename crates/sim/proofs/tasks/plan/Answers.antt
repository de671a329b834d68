use Rattle.sim.proofs.tasks.plan.Goals as goal

pub returns-in-Fuse-clause-plan : goal.returns-in-Fuse-clause-plan
returns-in-Fuse-clause-plan c liars s cluster = rw c.in-Fuse.is (c.for_correct.ensures.plan liars s cluster)

pub returns-in-Crash-clause-plan : goal.returns-in-Crash-clause-plan
returns-in-Crash-clause-plan c liars s cluster = rw c.in-Crash.is (c.for_correct-in-Crash.ensures.plan liars s cluster)

pub returns-in-Reset-clause-plan : goal.returns-in-Reset-clause-plan
returns-in-Reset-clause-plan c liars s cluster = rw c.in-Reset.is (c.reset.ensures.plan liars s)
