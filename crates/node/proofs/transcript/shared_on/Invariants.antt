use Rattle.std.proofs.Common.{◌≡◌, ◌++◌, drop}
use Rattle.node.specs.Words.{heard_on}
use Rattle.node.specs.Histories.{joined}
use Rattle.node.proofs.transcript.shared_on.Given as goal

abbrev pub invariant-loop-block : goal.invariant-loop-block
invariant-loop-block l = heard_on l.question (joined l.copies.items) ++ heard_on l.question (joined (drop l.block-index l.blocks)) ≡ heard_on l.question (joined l.blocks)
