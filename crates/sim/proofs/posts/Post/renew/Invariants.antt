use Rattle.std.proofs.Common.{◌<◌, ℕ, get_or}
use Rattle.sim.specs.Words.{Link, IsNewLink}
use Rattle.sim.proofs.posts.Post.renew.Given as goal

abbrev pub invariant-loop-link : goal.invariant-loop-link
invariant-loop-link l = (a : ℕ) (d : Link) → a < l.link-index → IsNewLink l.size (get_or l.link-items a d)
