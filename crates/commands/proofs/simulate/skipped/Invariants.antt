use Rattle.std.proofs.Common.{◌≡◌, take}
use Rattle.commands.specs.Simulations.{skipped}
use Rattle.commands.proofs.simulate.skipped.Given as goal

-- those so far are counted
abbrev pub invariant-loop-mark : goal.invariant-loop-mark
invariant-loop-mark l = l.count ≡ skipped (take l.mark-index l.marks)
