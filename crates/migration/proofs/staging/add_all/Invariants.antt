use Rattle.std.proofs.Common.{◌≡◌, ◌++◌, List}
use Rattle.std.specs.Slice.Iter.{chunks_rest, chunks_size}
use Rattle.migration.specs.Words.{AreWellFormedFor, Batch, draft_header, in_thousands, HasGrown}
use Rattle.migration.proofs.staging.add_all.Given as goal

abbrev pub invariant-loop-batch : goal.invariant-loop-batch
invariant-loop-batch g l =
    (goal.iterator-loop-batch g).can_next l.batch-iterator
    × (goal.iterator-loop-batch g).is_finite l.batch-iterator
    × (chunks_size l.batch-iterator ≡ 1000)
    × AreWellFormedFor (draft_header l.fn.draft) (chunks_rest l.batch-iterator)
    × ((done : List Batch) × (done ++ in_thousands (chunks_rest l.batch-iterator) ≡ in_thousands l.fn.records) × HasGrown g.E.Disk l.fn.draft done l.draft)
