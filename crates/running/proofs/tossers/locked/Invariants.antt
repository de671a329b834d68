use Rattle.std.proofs.Common.{◌<◌, ◌^◌, length}
use Rattle.std.specs.Vec.Iter.{into_iter_items}
use Rattle.running.specs.Streams.{AreOfLife}
use Rattle.running.proofs.tossers.locked.Given as goal

-- those that are left are of the life
abbrev pub invariant-loop-tosser : goal.invariant-loop-tosser
invariant-loop-tosser g l = length g.J.Naming.opening < 2 ^ 55 → AreOfLife g.J.Life.seed (length g.J.Naming.opening) (into_iter_items l.tosser-iterator)
