use Rattle.std.proofs.Common.{◌≡◌}
use Rattle.report.proofs.Choosing.{IsSo}
use Rattle.report.proofs.chart.choice.chosen_of.Given as goal

-- the events so far are judged
abbrev pub invariant-loop-index : goal.invariant-loop-index
invariant-loop-index l =
    IsSo l.fn.choice l.run.size l.run.liars.now l.run.events.now l.run.marks.now l.run.saved.now l.index l.chooser.columns.items l.chosen.items
    × (l.chooser.choice ≡ l.fn.choice) × (l.chooser.size ≡ l.run.size)
