use Rattle.std.proofs.Common.{◌≡◌}
use Rattle.report.specs.Lives.{first_lives}
use Rattle.report.proofs.chart.lifelines.new_lives.Given as goal

-- the members so far
abbrev pub invariant-loop-member : goal.invariant-loop-member
invariant-loop-member l = l.lives.items ≡ first_lives l.member-counter l.liars
