use Rattle.std.proofs.Common.{string_bytes}
use Rattle.gateway.specs.Times.{bounds}
use Rattle.gateway.proofs.Counting.{all_rows}
use Rattle.gateway.proofs.metrics.all_buckets.Goals as goal

pub returns : goal.returns
returns c = λ all counts.
    all_rows (λ text. string_bytes text) c.bucket_texts.result c.buckets.result.now all bounds (c.buckets.ensures all counts) c.bucket_texts.ensures
