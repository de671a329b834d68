use Rattle.std.proofs.Common.{◌≡◌, map, take}
use Rattle.gateway.specs.Times.{bucket_after}
use Rattle.gateway.proofs.times.buckets_after.Given as goal

-- the buckets so far have the time
abbrev pub invariant-loop-bucket : goal.invariant-loop-bucket
invariant-loop-bucket l = l.after.items ≡ map (bucket_after l.ms) (take l.bucket-index l.buckets)
