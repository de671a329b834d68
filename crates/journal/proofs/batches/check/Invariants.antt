use Rattle.std.proofs.Common.{List, length}
use Rattle.terms_prelude.specs.Terms.{Record}
use Rattle.journal.specs.Words.{TakesBatches}
use Rattle.journal.proofs.batches.check.Given as goal

-- some batches stand before what is left
abbrev pub invariant-batches : goal.invariant-batches
invariant-batches l = (records : List Record) × TakesBatches l.header l.bytes records l.rest

abbrev pub decreases-batches : goal.decreases-batches
decreases-batches l = length l.rest
