use Rattle.chances.proofs.Moves.{follows_then}
use Rattle.chances.proofs.adversary.tell.Goals as goal

pub loop-liar-preserved : goal.loop-liar-preserved
loop-liar-preserved c = follows_then _ _ _ c.loop-liar.invariant c.in_ok-lie.ensures.follows
