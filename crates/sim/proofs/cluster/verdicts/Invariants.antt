use Rattle.std.proofs.Common.{◌≡◌, ℕ, Bool}
use Rattle.sim.specs.Words.{Scene, IsCluster, verdicts_of_below}
use Rattle.sim.proofs.cluster.verdicts.Given as goal

abbrev pub invariant-loop-post : goal.invariant-loop-post
invariant-loop-post l = (liars : ℕ → Bool) (c : Scene) → IsCluster l.size liars c l.posts → l.verdicts.items ≡ verdicts_of_below l.post-index l.size.questions liars c.world
