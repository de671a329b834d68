use Rattle.std.proofs.Common.{arith, ◌≡◌, ◌<◌, ◌+◌, ◌≤◌, ◌∙◌, ap, sym, refl, subst, get_or, length, min}
use Rattle.std.proofs.lemmas.List.{get_or-take}
use Rattle.sim.specs.declared.TheConstants.{MOST_EVENTS}
use Rattle.report.specs.Lives.{Lines, drawn_lines, lines_of_run}
use Rattle.report.proofs.Tracing.{ended_of_four}
use Rattle.report.proofs.Running.{below_four, next_is}
use Rattle.report.proofs.Living.{lines_on, none_left, rows_few, some_of}
use Rattle.report.proofs.chart.lifelines.lifelines_of.Goals as goal

pub loop-index-preserved : goal.loop-index-preserved
loop-index-preserved c few =
    let run = c.args.run.now in
    let events = run.events.now in
    let marks = run.marks.now in
    let saved = run.saved.now in
    let chosen = c.args.chosen.now in
    let i = c.loop-index.index in
    let old = drawn_lines c.loop-index.lines in
    let new = drawn_lines c.follow.new.self in
    let count : c.min-count.result ≡ min (min (min (length events) (length marks)) (length saved)) (length chosen) =
    c.min-count.ensures ∙ ap (λ k. min k (length chosen)) c.shortest.ensures in
    let inside = below_four events (length marks) (length saved) (length chosen) c.min-count.result i count c.loop-index-test.true in
    let before = c.loop-index.invariant few in
    let room : c.loop-index.lines.rows < MOST_EVENTS = omega (arith, before.0, inside.0, few) in
    let is = c.in_ok-follow.ensures room in
    let rows : new.rows ≤ old.rows + 1 = subst (λ (l : Lines). l.rows ≤ old.rows + 1) (sym is) (rows_few c.event-item.result _ _ old) in
    let event : c.event-item.result ≡ get_or events i c.event-item.result =
    c.event-item.is ∙ get_or-take c.min-count.result events i c.event-item.result inside.4 in
    let kept = some_of saved i inside.2 in (
      omega (arith, rows, before.0),
      lines_on i events marks saved chosen old new (lines_of_run run.size.n run.liars.now events marks saved chosen) c.event-item.result _ (get_or saved i kept) _
          (next_is events i c.event-item.result c.event-item.result inside.0 event) (next_is marks i _ _ inside.1 refl) (next_is saved i kept (get_or saved i kept) inside.2 refl)
          (next_is chosen i _ _ inside.3 refl) is before.1,
    )

pub returns-clause-drawn : goal.returns-clause-drawn
returns-clause-drawn c few =
    let run = c.args.run.now in
    let events = run.events.now in
    let marks = run.marks.now in
    let saved = run.saved.now in
    let chosen = c.args.chosen.now in
    let i = c.loop-index.index in
    let count : c.min-count.result ≡ min (min (min (length events) (length marks)) (length saved)) (length chosen) =
    c.min-count.ensures ∙ ap (λ k. min k (length chosen)) c.shortest.ensures in
    sym (none_left i events marks saved chosen (drawn_lines c.loop-index.lines)
    (ended_of_four events (length marks) (length saved) (length chosen) c.min-count.result i count c.loop-index-test.false))
    ∙ (c.loop-index.invariant few).1
