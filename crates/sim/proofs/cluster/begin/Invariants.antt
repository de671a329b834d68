use Rattle.std.proofs.Common.{◌≡◌, ◌<◌, ◌≤◌, ℕ, get_or}
use Rattle.sim.specs.Words.{Post, OpensPost}
use Rattle.sim.proofs.cluster.begin.Given as goal

abbrev pub invariant-loop-post : goal.invariant-loop-post
invariant-loop-post l = record {
  done : (p : ℕ) (d : Post) → p < l.post-index → OpensPost (get_or l.initial.posts p d) (get_or l.posts p d);
  rest : (p : ℕ) (d : Post) → l.post-index ≤ p → get_or l.posts p d ≡ get_or l.initial.posts p d;
}
