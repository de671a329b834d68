use Rattle.std.proofs.Common.{length}
use Rattle.journal.specs.Words.{TakesIn}
use Rattle.journal.proofs.read.read_batches.Given as goal

abbrev pub invariant-batches : goal.invariant-batches
invariant-batches g l = TakesIn g.L.Layout.spelling l.header l.bytes l.records.items l.rest

abbrev pub decreases-batches : goal.decreases-batches
decreases-batches g l = length l.rest
