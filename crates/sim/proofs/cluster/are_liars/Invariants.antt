use Rattle.std.proofs.Common.{drop}
use Rattle.sim.specs.Outcomes.{RiseFrom}
use Rattle.sim.proofs.cluster.are_liars.Given as goal

abbrev pub invariant-loop-liar : goal.invariant-loop-liar
invariant-loop-liar l = record {
  then : RiseFrom 0 l.size.n l.liars → RiseFrom l.least l.size.n (drop l.liar-index l.liars);
  back : RiseFrom l.least l.size.n (drop l.liar-index l.liars) → RiseFrom 0 l.size.n l.liars;
}
