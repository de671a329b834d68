use Rattle.std.proofs.Common.{rules, Bool, ◌≡◌, ◌≤◌, ◌∙◌, ap, subst, List}
use Rattle.sim.specs.declared.TheConstants.{MOST_EVENTS}
use Rattle.report.specs.Lives.{Lines, lines_of_run, drawn_lines, whole_lines}
use Rattle.report.specs.Places.{column_x, row_y}
use Rattle.report.specs.Runs.{AreRows}
use Rattle.report.proofs.Charting.{chart_written}
use Rattle.report.proofs.Living.{whole_is}
use Rattle.report.proofs.chart.write_chart.Goals as goal

pub returns : goal.returns
returns g c few =
    let args = c.args.run.now in
    let size = args.size in
    let chosen : List Bool = c.in_ok-chosen.chosen.items in
    let lines = c.in_ok-lines.lines in
    let run = lines_of_run size.n args.liars.now args.events.now args.marks.now args.saved.now chosen in
    let drawn : drawn_lines lines ≡ run = c.in_ok-lines.ensures.drawn few
    ∙ ap (λ (l : List Bool). lines_of_run size.n args.liars.now args.events.now args.marks.now args.saved.now l) c.deref.ensures.value in
    let rows : c.rows-rows.result ≡ run.rows = c.rows-rows.ensures ∙ ap (λ (l : Lines). l.rows) drawn in
    let short = c.in_ok-lines.ensures.few few in
    let room : c.rows-rows.result ≤ MOST_EVENTS = search (rules, few, short, c.rows-rows.ensures) in
    let bottom : c.y_of-bottom.result ≡ row_y run.rows = c.y_of-bottom.ensures room ∙ ap row_y rows in
    let width : c.x_of.result ≡ column_x size.n = c.x_of.ensures ∙ ap column_x c.n-2.ensures.value in
    let text : c.as_str.result.now ≡ whole_lines size.n run =
    c.as_str.ensures ∙ c.in_ok-end.ensures ∙ whole_is (drawn_lines lines) run size.n c.n.result c.y_of-bottom.result drawn c.n.ensures.value bottom in
    let written = c.in_ok-write_rows.ensures few in
    chart_written (g.W.Write.contents c.args.output.now) (g.W.Write.contents c.write_top.new.output) (g.W.Write.contents c.write_rows.new.output)
    (g.W.Write.contents c.write_bottom.new.output) c.args.choice size args.liars.now args.events.now args.marks.now args.saved.now chosen c.x_of.result c.y_of-bottom.result
    c.rows-rows.result c.as_str.result.now c.in_ok-chosen.ensures width bottom rows text (c.in_ok-write_top.ensures (search (rules, room, rows, bottom)))
    (written.0, subst (λ (l : List Bool). AreRows size args.liars.now args.events.now args.marks.now args.saved.now l written.0) c.deref-2.ensures.value written.1, written.2)
    (c.in_ok-write_bottom.ensures (search (rules, room, rows, bottom)))
