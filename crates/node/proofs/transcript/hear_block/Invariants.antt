use Rattle.std.proofs.Common.{◌≡◌, ◌++◌, drop}
use Rattle.node.specs.Words.{heard_on}
use Rattle.node.proofs.transcript.hear_block.Given as goal

abbrev pub invariant-loop-noted : goal.invariant-loop-noted
invariant-loop-noted l = l.heard.items ++ heard_on l.question (drop l.noted-index l.block) ≡ l.initial.heard.items ++ heard_on l.question l.block
