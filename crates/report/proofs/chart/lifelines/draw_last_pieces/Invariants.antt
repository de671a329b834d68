use Rattle.report.specs.Drawings.{Grows}
use Rattle.report.specs.Lives.{last_pieces}
use Rattle.report.proofs.chart.lifelines.draw_last_pieces.Given as goal

-- the lifelines of the members so far are drawn to their end
abbrev pub invariant-loop-member : goal.invariant-loop-member
invariant-loop-member l = Grows l.initial.drawing l.drawing (last_pieces l.member l.lives l.bottom)
