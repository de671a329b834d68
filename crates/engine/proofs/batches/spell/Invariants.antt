use Rattle.std.proofs.Common.{◌≡◌, ◌++◌, drop}
use Rattle.std.specs.List.{flat_map}
use Rattle.engine.specs.Texts.{record_bytes, records_bytes}
use Rattle.engine.proofs.batches.spell.Given as goal

abbrev pub invariant-loop-noted : goal.invariant-loop-noted
invariant-loop-noted l = l.bytes.items ++ flat_map record_bytes (drop l.noted-index l.records) ≡ records_bytes l.records
