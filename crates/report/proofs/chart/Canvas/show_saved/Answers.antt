use Rattle.std.proofs.Common.{rules, ◌≡◌, ◌==◌, ◌∙◌, [], ◌∷◌, length, false, string_bytes}
use Rattle.report.specs.Charts.{member_of}
use Rattle.report.specs.Drawings.{BadgeAt}
use Rattle.report.specs.Pictures.{decided_text, saved_elements, said_text, said_verb}
use Rattle.report.specs.Places.{column_x}
use Rattle.report.proofs.Elements.{named}
use Rattle.report.proofs.Picturing.{saved_is, said_is}
use Rattle.report.proofs.chart.Canvas.show_saved.Goals as goal

pub returns-clause-drawn : goal.returns-clause-drawn
returns-clause-drawn c =
    let questions = c.args.self.now.size.questions in
    let event = c.args.event.now in
    let records = c.args.saved.now in
    let at : c.x_of-x.result ≡ column_x (member_of event) = search (rules, c.x_of-x.ensures, c.member_of-own.ensures) in
    let decided : c.as_str-2.result.now ≡ decided_text questions records = search (rules, c.as_str-2.ensures.value, c.in_ok-decided.ensures, c.questions.ensures.value) in
    let said : c.as_str-3.result.now ≡ said_text (said_verb event) records =
    c.as_str-3.ensures.value ∙ said_is c.said_verb.result.now event records (string_bytes c.in_ok-said.said) c.said_verb.ensures c.in_ok-said.ensures in
    let some : (length c.as_str-2.result.now == 0) ≡ false = search (rules, c.as_str-2.ensures.value, c.is_empty.ensures, c.if-is_empty.false) in
    named c.badge.result c.args.self.now.events c.badge.new.self (BadgeAt c.x_of-x.result c.args.y c.as_str-2.result.now c.as_str-3.result.now ∷ [])
    (saved_elements questions event records c.args.y)
    (saved_is questions event records c.x_of-x.result c.args.y c.as_str-2.result.now c.as_str-3.result.now some at decided said) c.badge.ensures
