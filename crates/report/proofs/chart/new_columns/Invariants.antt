use Rattle.report.specs.Columns.{AreNew}
use Rattle.report.proofs.chart.new_columns.Given as goal

-- the members so far are new
abbrev pub invariant-loop-member : goal.invariant-loop-member
invariant-loop-member l = AreNew l.n l.member-counter l.liars l.columns.items
