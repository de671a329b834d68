use Rattle.std.proofs.Common.{◌≡◌, ◌++◌, ◌∷◌, drop}
use Rattle.std.specs.List.{flat_map}
use Rattle.journal.specs.Texts.{batch_body, record_bytes}
use Rattle.engine.proofs.batches.shut.Given as goal

abbrev pub invariant-loop-noted : goal.invariant-loop-noted
invariant-loop-noted l =
    l.batch.items ++ flat_map record_bytes (drop l.noted-index l.records) ≡ 0 ∷ batch_body l.records
