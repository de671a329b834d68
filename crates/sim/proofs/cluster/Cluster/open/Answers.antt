use Rattle.std.proofs.Common.{refl}
use Rattle.sim.specs.Outcomes.{fused_in}
use Rattle.sim.proofs.Simulations.{few_lie}
use Rattle.sim.proofs.Playing.{stands_first}
use Rattle.sim.proofs.cluster.Cluster.open.Goals as goal

pub returns-clause-stands : goal.returns-clause-stands
returns-clause-stands c =
    stands_first c.args.size c.args.liars.now (fused_in c.args.disks.items) _ c.recall.ensures (c.if-not-are_liars.ensures.0 refl) refl c.in_ok-posts.ensures.cluster

pub returns-clause-few_lie : goal.returns-clause-few_lie
returns-clause-few_lie c = few_lie c.args.size c.args.liars.now (c.if-not-are_liars.ensures.0 refl)
