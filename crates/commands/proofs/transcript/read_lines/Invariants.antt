use Rattle.std.proofs.Common.{◌-◌}
use Rattle.commands.proofs.Lines.{HasRead}
use Rattle.commands.proofs.transcript.read_lines.Given as goal

abbrev pub invariant-loop-left : goal.invariant-loop-left
invariant-loop-left g l =
    HasRead (g.R.Read.remaining l.initial.from) (g.R.Read.remaining l.from) l.initial.text.items l.text.items l.count l.left

abbrev pub decreases-loop-left : goal.decreases-loop-left
decreases-loop-left g l = l.left
