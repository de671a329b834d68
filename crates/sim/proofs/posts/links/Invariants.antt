use Rattle.std.proofs.Common.{◌≡◌, ◌<◌, ℕ, length, get_or}
use Rattle.sim.specs.Words.{Link, IsNewLink}
use Rattle.sim.proofs.posts.links.Given as goal

abbrev pub invariant-loop-from : goal.invariant-loop-from
invariant-loop-from l = record {
  count : length l.links.items ≡ l._from;
  new : (a : ℕ) (d : Link) → a < l._from → IsNewLink l.size (get_or l.links.items a d);
}
