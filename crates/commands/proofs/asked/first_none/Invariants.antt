use Rattle.std.specs.Prelude.{take}
use Rattle.std.specs.List.{AllByRecursion}
use Rattle.commands.specs.Asked.{NamesOne}
use Rattle.commands.proofs.asked.first_none.Given as goal

-- the entries so far name addresses
abbrev pub invariant-loop-index : goal.invariant-loop-index
invariant-loop-index l = AllByRecursion NamesOne (take l.index l.values)
