use Rattle.std.proofs.Common.{ap, length, List, arith}
use Rattle.terms_prelude.specs.Terms.{Record}
use Rattle.engine.proofs.Counting.{records_count, none_left}
use Rattle.engine.proofs.batches.encode_batch.Goals as goal

pub returns-then-is_empty-clause-bad : goal.returns-then-is_empty-clause-bad
returns-then-is_empty-clause-bad c is records lawful some few same =
    omega (
      arith,
      some,
      records_count c.args.bytes.now c.in-Ok.records.items records c.in-Ok.ensures.read.1 same,
      none_left _ c.if-is_empty.ensures,
      ap (λ (l : List Record). length l) c.as_slice-records.ensures.value,
    )

pub returns-then-records-gt-MOST_RECORDS-clause-bad : goal.returns-then-records-gt-MOST_RECORDS-clause-bad
returns-then-records-gt-MOST_RECORDS-clause-bad c is records lawful some few same =
    omega (
      arith,
      few,
      records_count c.args.bytes.now c.in-Ok.records.items records c.in-Ok.ensures.read.1 same,
      c.if-records-gt-MOST_RECORDS.true,
      ap (λ (l : List Record). length l) c.as_slice-records.ensures.value,
    )
