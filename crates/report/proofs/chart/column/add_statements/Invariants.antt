use Rattle.std.proofs.Common.{◌≡◌, ◌++◌, take}
use Rattle.report.specs.Charts.{statements_said}
use Rattle.report.proofs.chart.column.add_statements.Given as goal

-- the statements among the records so far are there
abbrev pub invariant-loop-record : goal.invariant-loop-record
invariant-loop-record l = l.said.items ≡ l.initial.said.items ++ statements_said (take l.record-index l.saved)
