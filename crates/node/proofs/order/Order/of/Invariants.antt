use Rattle.std.proofs.Common.{take}
use Rattle.node.specs.Words.{IsOrdered}
use Rattle.node.proofs.order.Order.of.Given as goal

abbrev pub invariant-loop-one : goal.invariant-loop-one
invariant-loop-one l = IsOrdered l.questions (take l.one-index l.records) l.order
