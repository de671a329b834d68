use Rattle.std.proofs.Common.{◌≡◌, ◌+◌, ◌++◌, drop, length, slice_get}
use Rattle.node.specs.Histories.{joined}
use Rattle.node.proofs.history.History.get.Given as goal

abbrev pub invariant-loop-block : goal.invariant-loop-block
invariant-loop-block l = record {
  same : slice_get (joined (drop l.block-index l.block-items) ++ l.self-inside.last.items) l.left ≡ slice_get l.self.entries l.at;
  short : l.at + length (joined (drop l.block-index l.block-items) ++ l.self-inside.last.items) ≡ l.left + length l.self.entries;
}
