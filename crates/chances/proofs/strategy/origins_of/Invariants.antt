use Rattle.std.proofs.Common.{◌≡◌, ◌++◌, drop}
use Rattle.chances.specs.Strategy.{origins_from, origins_of}
use Rattle.chances.proofs.strategy.origins_of.Given as goal

-- those that were found, and those that are left to find, are all
abbrev pub invariant-loop-origin : goal.invariant-loop-origin
invariant-loop-origin l =
    l.origins.items ++ origins_from l.origin l.value (drop l.origin l.values) ≡ origins_of l.value l.values
