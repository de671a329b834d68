use Rattle.std.proofs.Common.{◌≤◌, length}
use Rattle.sim.specs.declared.TheConstants.{MOST_EVENTS}
use Rattle.report.proofs.Running.{IsFar}
use Rattle.report.proofs.chart.write_rows.Given as goal

-- the rows of the events so far are written
abbrev pub invariant-loop-index : goal.invariant-loop-index
invariant-loop-index g l =
    length l.run.events.now ≤ MOST_EVENTS
    → IsFar l.run.size l.run.liars.now l.run.events.now l.run.marks.now l.run.saved.now l.chosen l.index l.canvas (g.W.Write.contents l.fn.output) (g.W.Write.contents l.output)
