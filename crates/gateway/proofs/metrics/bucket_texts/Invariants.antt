use Rattle.std.proofs.Common.{◌≡◌, take, string_bytes}
use Rattle.std.specs.List.{flat_map}
use Rattle.gateway.specs.Metrics.{bucket_text}
use Rattle.gateway.proofs.metrics.bucket_texts.Given as goal

-- the buckets so far have their rows
abbrev pub invariant-loop-bucket : goal.invariant-loop-bucket
invariant-loop-bucket l = string_bytes l.text ≡ flat_map bucket_text (take l.bucket-index l.buckets)
