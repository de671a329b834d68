use Rattle.std.proofs.Common.{◌≡◌, ◌+◌, ◌*◌, ◌<◌, ◌^◌}
use Rattle.running.specs.Streams.{streams}
use Rattle.running.proofs.tossers.tossers_from.Given as goal

abbrev pub invariant-loop-at : goal.invariant-loop-at
invariant-loop-at l = l.fn.records < 2 ^ 55 → l.tossers.items ≡ streams l.fn.seed (l.fn.records * 256 + l.fn.first) l.at
