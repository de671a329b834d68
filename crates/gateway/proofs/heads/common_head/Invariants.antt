use Rattle.std.proofs.Common.{◌<◌, take}
use Rattle.std.specs.List.{AllByRecursion}
use Rattle.gateway.specs.Heads.{count_at}
use Rattle.gateway.proofs.Reaching.{IsReached}
use Rattle.gateway.proofs.heads.common_head.Given as goal

-- more than t members have come to the greatest so far, and of those that were looked at no greater one is so
abbrev pub invariant-loop-head : goal.invariant-loop-head
invariant-loop-head l =
    (0 < l.common → l.t < count_at l.heads l.common) × AllByRecursion (IsReached l.t l.heads l.common) (take l.head-index l.heads)
