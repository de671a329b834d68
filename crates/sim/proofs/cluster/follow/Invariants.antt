use Rattle.std.proofs.Common.{ℕ, Bool, take}
use Rattle.terms_prelude.specs.Terms.{Size}
use Rattle.sim.specs.Plays.{ClusterStandsFor, played, unplayed}
use Rattle.sim.proofs.cluster.follow.Given as goal

abbrev pub invariant-loop-event : goal.invariant-loop-event
invariant-loop-event l = (size : Size) (liars fused : ℕ → Bool) → ClusterStandsFor (unplayed size liars fused) l.initial.cluster
    → ClusterStandsFor (played size liars fused (take l.event-index l.script) l.marks.items l.saved.items) l.cluster
