use Rattle.std.proofs.Common.{rules, ◌≡◌, ◌∙◌, Option, Some, None, option_map, List, ℕ, sym, ap, slice_get}
use Rattle.report.specs.declared.chart.column.Column.{Column}
use Rattle.report.specs.declared.chart.drawing.Words.TheVariants as words
use Rattle.report.specs.Drawings.{words_at}
use Rattle.report.specs.Pictures.{head_elements, head_text}
use Rattle.report.specs.Places.{column_x}
use Rattle.report.proofs.Elements.{named, unchanged, looked_up}
use Rattle.report.proofs.chart.draw_head.Goals as goal

pub returns-in-None : goal.returns-in-None
returns-in-None c =
    let look = c.get.ensures.lookup in
    let none : slice_get c.args.columns.now c.args.member ≡ None =
    ap (slice_get c.args.columns.now) (sym c.from.ensures) ∙ looked_up c.args.columns.now c.from.result c.get.result _ look.3 look.1
    ∙ ap (option_map (λ x. x.now)) c.in-None.is in
    unchanged c.args.events.now (head_elements (slice_get c.args.columns.now c.args.member) c.args.member c.args.y)
    (ap (λ (o : Option Column). head_elements o c.args.member c.args.y) none)

pub returns-in_ok-name-in-Some : goal.returns-in_ok-name-in-Some
returns-in_ok-name-in-Some c =
    let look = c.get.ensures.lookup in
    let some : slice_get c.args.columns.now c.args.member ≡ Some c.in-Some.column.now =
    ap (slice_get c.args.columns.now) (sym c.from.ensures) ∙ looked_up c.args.columns.now c.from.result c.get.result _ look.3 look.1
    ∙ ap (option_map (λ x. x.now)) c.in-Some.is in
    let text : c.as_str.result.now ≡ head_text c.args.member c.in-Some.column.now.is_liar = search rules in
    named c.words.result c.args.events.now c.words.new.self (words_at words.Head c.x_of.result c.args.y c.as_str.result.now)
    (head_elements (slice_get c.args.columns.now c.args.member) c.args.member c.args.y)
    (ap (λ x. words_at words.Head x c.args.y c.as_str.result.now) c.x_of.ensures
    ∙ ap (λ (t : List ℕ). words_at words.Head (column_x c.args.member) c.args.y t) text
    ∙ ap (λ (o : Option Column). head_elements o c.args.member c.args.y) (sym some)) c.words.ensures
