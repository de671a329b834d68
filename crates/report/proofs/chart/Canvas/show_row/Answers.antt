use Rattle.std.proofs.Common.{rules, ◌≡◌, ◌∙◌, List, ℕ, ap, subst, OnOk}
use Rattle.std.specs.Fmt.{decimal}
use Rattle.terms_prelude.specs.Terms.{Size}
use Rattle.report.specs.Charts.{member_of}
use Rattle.report.specs.declared.chart.Canvas.{Canvas}
use Rattle.report.specs.declared.chart.column.Column.{Column}
use Rattle.report.specs.declared.chart.drawing.Words.TheVariants as words
use Rattle.report.specs.Drawings.{Element, Grows, words_at}
use Rattle.report.specs.Pictures.{IsRow, IsShown, failure_elements, saved_elements}
use Rattle.report.proofs.Picturing.{at_place, row_drawn}
use Rattle.report.proofs.chart.Canvas.show_row.Goals as goal

pub returns-clause-drawn : goal.returns-clause-drawn
returns-clause-drawn c =
    let size = c.args.self.now.size in
    let columns = c.args.self.now.columns.items in
    let event = c.args.event.now in
    let digits : c.as_str.result.now ≡ decimal c.args.number = search rules in
    let size_1 : c.show_heads_again.new.self.size ≡ size = ap (λ (s : Canvas). s.size) c.show_heads_again.ensures.only in
    let columns_1 : c.show_heads_again.new.self.columns.items ≡ columns = ap (λ (s : Canvas). s.columns.items) c.show_heads_again.ensures.only in
    let size_4 : c.show_failure.new.self.size ≡ size =
    ap (λ (s : Canvas). s.size) c.show_failure.ensures.only ∙ ap (λ (s : Canvas). s.size) c.show.ensures.only ∙ size_1 in
    let own : c.member_of.result ≡ member_of event = c.member_of.ensures in
    let shown = c.in_ok-show.ensures.drawn in
    at_place c.show_saved.result
    (λ y. (elements : List Element) × IsRow size columns c.args.row y c.args.number event c.args.mark c.args.saved.now elements
    × Grows c.args.self.now.events c.show_saved.new.self.events elements)
    _ c.y_of-y.result _ c.y_of-y.ensures
    (row_drawn c.show_saved.result c.args.self.now.events c.show_heads_again.new.self.events c.words.new.self c.show.new.self.events
    c.show_failure.new.self.events c.show_saved.new.self.events size columns c.args.row c.y_of-y.result c.args.number event c.args.mark c.args.saved.now
    shown.0 c.in_ok-show_heads_again.ensures.drawn
    (subst (λ (text : List ℕ). Grows c.show_heads_again.new.self.events c.words.new.self (words_at words.Number 40 c.y_of-y.result text)) digits c.in_ok-words.ensures)
    (subst (λ (l : List Column). IsShown size l event c.args.mark c.y_of-y.result shown.0) columns_1
    (subst (λ (s : Size). IsShown s c.show_heads_again.new.self.columns.items event c.args.mark c.y_of-y.result shown.0) size_1 shown.1)) shown.2
    (subst (λ member. Grows c.show.new.self.events c.show_failure.new.self.events (failure_elements member c.args.mark c.y_of-y.result)) own (search (rules, c.in_ok-show_failure.ensures.drawn)))
    (subst (λ (s : Size). OnOk c.show_saved.result (Grows c.show_failure.new.self.events c.show_saved.new.self.events (saved_elements s.questions event c.args.saved.now c.y_of-y.result)))
    size_4 c.show_saved.ensures.drawn))
