use Rattle.std.proofs.Common.{rules, ◌≡◌, ◌∙◌, ℕ, List, [], ◌∷◌, ap, sym, append-nil, string_bytes}
use Rattle.report.specs.Drawings.{BadgeAt, element_text, plate_text}
use Rattle.report.proofs.Elements.{badge_on, drawn}
use Rattle.report.proofs.chart.drawing.Drawing.badge.Goals as goal

pub returns : goal.returns
returns c =
    let badge = c.args.badge.now in
    let words = c.args.words.now in
    let text : c.as_str.result.now ≡ badge_on (string_bytes c.in_ok-plate.plate) c.half_badge-half.result badge words = search rules in
    let is : element_text (BadgeAt c.args.x c.args.y badge words) ≡ c.as_str.result.now =
    ap (λ half. badge_on (plate_text half c.args.x c.args.y) half badge words) (sym c.half_badge-half.ensures.value)
    ∙ ap (λ (plate : List ℕ). badge_on plate c.half_badge-half.result badge words) (sym c.in_ok-plate.ensures) ∙ sym text in
    drawn c.add.result c.args.self.now c.add.new.self c.as_str.result.now (BadgeAt c.args.x c.args.y badge words ∷ [])
    (sym is ∙ sym (append-nil (element_text (BadgeAt c.args.x c.args.y badge words)))) c.add.ensures
