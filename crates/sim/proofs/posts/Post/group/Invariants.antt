use Rattle.sim.specs.Presences.{saved_in}
use Rattle.sim.proofs.Groups.{TakenSoFar}
use Rattle.sim.proofs.posts.Post.group.Given as goal

abbrev pub invariant-loop-taken : goal.invariant-loop-taken
invariant-loop-taken l = TakenSoFar (saved_in l.fn.self.presence) l.number l._taken l.statements.items l.place
