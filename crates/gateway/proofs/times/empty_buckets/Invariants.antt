use Rattle.std.proofs.Common.{◌≡◌, [], map, take}
use Rattle.gateway.specs.Times.{bucket_of}
use Rattle.gateway.proofs.times.empty_buckets.Given as goal

-- the bounds so far have empty buckets
abbrev pub invariant-loop-most : goal.invariant-loop-most
invariant-loop-most l = l.buckets.items ≡ map (bucket_of []) (take l.most-index l.bounds)
