use Rattle.std.proofs.Common.{rules, arith, List, ◌∙◌, ◌≡◌, ◌+◌, ap, sym, subst, length}
use Rattle.report.specs.declared.chart.Canvas.{Canvas}
use Rattle.report.specs.declared.chart.column.Column.{Column}
use Rattle.report.specs.declared.chart.drawing.Drawing.{Drawing}
use Rattle.report.specs.Columns.{FollowAll}
use Rattle.report.specs.Drawings.{Grows}
use Rattle.report.proofs.chart.Canvas.draw.Goals as goal

-- what is drawn changes no column
pub returns-clause-follow : goal.returns-clause-follow
returns-clause-follow c =
    let same : c.show_row.new.self.columns.items ≡ c.args.self.now.columns.items = ap (λ (s : Canvas). s.columns.items) c.show_row.ensures.only in
    subst (λ (before : List Column). FollowAll c.args.event.now c.args.mark c.args.saved.now before c.follow.new.self.columns.items)
    same c.in_ok-follow.ensures.follow

-- the row
pub returns-clause-draws : goal.returns-clause-draws
returns-clause-draws c few =
    let event = c.args.event.now in
    let before = c.args.self.now in
    let columns : c.show_row.new.self.columns.items ≡ before.columns.items = ap (λ (s : Canvas). s.columns.items) c.show_row.ensures.only in
    let size : c.show_row.new.self.size ≡ before.size = ap (λ (s : Canvas). s.size) c.show_row.ensures.only in
    let next : c.saturating_add-self.result ≡ before.rows + 1 = search (rules, few, c.saturating_add-self.ensures) in
    let rows : c.show_row.new.self.rows ≡ before.rows + 1 = ap (λ (s : Canvas). s.rows) c.show_row.ensures.only ∙ next in
    let shown = c.in_ok-show_row.ensures.drawn (omega (arith, few)) in
    let done = c.in_ok-follow.ensures in
    record {
      row = shown.0;
      size_is = ap (λ (s : Canvas). s.size) done.rest ∙ size;
      is = record {
        follow = subst (λ (l : List Column). FollowAll event c.args.mark c.args.saved.now l c.follow.new.self.columns.items) columns done.follow;
        count = done.count ∙ ap length columns;
        below = ap (λ (s : Canvas). s.rows) done.rest ∙ rows;
        drawn = shown.1;
      };
      events = subst (λ (d : Drawing). Grows before.events d shown.0) (sym (ap (λ (s : Canvas). s.events) done.rest)) shown.2;
    }
