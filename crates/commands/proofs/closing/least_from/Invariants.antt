use Rattle.std.proofs.Common.{◌≡◌, drop}
use Rattle.commands.specs.Closings.{least_from}
use Rattle.commands.proofs.closing.least_from.Given as goal

-- the least so far, and of the members that are left
abbrev pub invariant-loop-one : goal.invariant-loop-one
invariant-loop-one l = least_from l.least (drop l.one-index l.told) ≡ least_from l.fn.first l.fn.told
