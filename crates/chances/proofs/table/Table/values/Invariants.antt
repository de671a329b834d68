use Rattle.std.proofs.Common.{◌≡◌}
use Rattle.chances.specs.Steps.{step_of}
use Rattle.chances.specs.Tables.{said_of, table_size, with_lies}
use Rattle.chances.proofs.table.Table.values.Given as goal

-- the values so far are with as many lies as turns
abbrev pub invariant-loop : goal.invariant-loop
invariant-loop l = l.values.items ≡ with_lies l.counter (table_size l.self) (step_of l.step.0) (said_of l.self l.step.0)
