use Rattle.std.proofs.Common.{take}
use Rattle.node.specs.Words.{AreMarkedIn}
use Rattle.node.proofs.block.table_of.Given as goal

abbrev pub invariant-loop-entry : goal.invariant-loop-entry
invariant-loop-entry l = AreMarkedIn l.table.marks (take l.entry-index l.entries)
