use Rattle.rbc.specs.Words.{AreNamed}
use Rattle.rbc.proofs.table.name_all.Given as goal

abbrev pub invariant-loop-number : goal.invariant-loop-number
invariant-loop-number l = AreNamed l.numbers.items l.cells l.number
