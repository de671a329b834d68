use Rattle.report.specs.Drawings.{Grows}
use Rattle.report.specs.Pictures.{heads}
use Rattle.report.proofs.chart.draw_heads.Given as goal

-- the members so far have their heads
abbrev pub invariant-loop-member : goal.invariant-loop-member
invariant-loop-member l = Grows l.initial.events l.events (heads l.member l.columns l.y)
