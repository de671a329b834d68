use Rattle.std.proofs.Common.{◌≡◌, ◌<◌, ◌++◌, ℕ, length, get_or}
use Rattle.std.specs.Vec.Iter.{into_iter_items, into_iter_len}
use Rattle.sim.specs.Words.{Post, IsReady, IsCreated, mine, among, fused_in}
use Rattle.sim.proofs.cluster.posts.Given as goal

abbrev pub invariant-loop-disk : goal.invariant-loop-disk
invariant-loop-disk l = record {
  me : l.me ≡ length l.posts.items;
  count : length l.posts.items ≡ length l.yielded;
  all : l.yielded ++ into_iter_items l.disk-iterator ≡ into_iter_items l.initial.disk-iterator;
  left : into_iter_len l.disk-iterator ≡ length (into_iter_items l.disk-iterator);
  each : (p : ℕ) (d : Post) → p < length l.posts.items
      → IsReady (get_or l.posts.items p d) × IsCreated (mine l.size p) (among l.liars p) (fused_in l.yielded p) (get_or l.posts.items p d);
}
