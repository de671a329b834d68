use Rattle.std.proofs.Common.{rules, slice_get}
use Rattle.report.specs.Pictures.{head_elements}
use Rattle.report.proofs.Picturing.{member_drawn}
use Rattle.report.proofs.chart.draw_heads.Goals as goal

pub loop-member-preserved : goal.loop-member-preserved
loop-member-preserved c =
    member_drawn c.args.events.now c.loop-member.events c.draw_head.new.events c.loop-member.member
    (λ member. head_elements (slice_get c.args.columns.now member) member c.args.y) c.loop-member.invariant (search (rules, c.in_ok-draw_head.ensures))
