use Rattle.std.proofs.Common.{rules, slice_get}
use Rattle.report.specs.Lives.{last_piece}
use Rattle.report.proofs.Picturing.{member_drawn}
use Rattle.report.proofs.chart.lifelines.draw_last_pieces.Goals as goal

pub loop-member-preserved : goal.loop-member-preserved
loop-member-preserved c =
    member_drawn c.args.drawing.now c.loop-member.drawing c.draw_last_piece.new.drawing c.loop-member.member
    (λ member. last_piece (slice_get c.args.lives.now member) member c.args.bottom) c.loop-member.invariant (search (rules, c.in_ok-draw_last_piece.ensures))
