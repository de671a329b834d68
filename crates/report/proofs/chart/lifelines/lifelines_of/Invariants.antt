use Rattle.std.proofs.Common.{◌≡◌, ◌≤◌, length, drop}
use Rattle.sim.specs.declared.TheConstants.{MOST_EVENTS}
use Rattle.report.specs.Lives.{drawn_lines, lines_after, lines_of_run}
use Rattle.report.proofs.chart.lifelines.lifelines_of.Given as goal

-- the lifelines so far, and the events that are left, make the whole
abbrev pub invariant-loop-index : goal.invariant-loop-index
invariant-loop-index l =
    length l.run.events.now ≤ MOST_EVENTS → (l.lines.rows ≤ l.index)
    × (lines_after (drop l.index l.run.events.now) (drop l.index l.run.marks.now) (drop l.index l.run.saved.now) (drop l.index l.chosen) (drawn_lines l.lines)
    ≡ lines_of_run l.run.size.n l.run.liars.now l.run.events.now l.run.marks.now l.run.saved.now l.chosen)
