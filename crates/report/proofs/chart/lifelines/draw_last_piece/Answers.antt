use Rattle.std.proofs.Common.{rules, ◌≡◌, ◌∙◌, [], ◌∷◌, Option, Some, None, option_map, sym, ap, slice_get}
use Rattle.report.specs.declared.chart.lifelines.Life.{Life}
use Rattle.report.specs.Drawings.{Piece}
use Rattle.report.specs.Lives.{last_piece}
use Rattle.report.proofs.Elements.{named, unchanged, looked_up}
use Rattle.report.proofs.Living.{piece_is}
use Rattle.report.proofs.chart.lifelines.draw_last_piece.Goals as goal

pub returns-in-None : goal.returns-in-None
returns-in-None c =
    let look = c.get.ensures.lookup in
    let none : slice_get c.args.lives.now c.args.member ≡ None =
    ap (slice_get c.args.lives.now) (sym c.from.ensures) ∙ looked_up c.args.lives.now c.from.result c.get.result _ look.3 look.1
    ∙ ap (option_map (λ x. x.now)) c.in-None.is in
    unchanged c.args.drawing.now (last_piece (slice_get c.args.lives.now c.args.member) c.args.member c.args.bottom)
    (ap (λ (o : Option Life). last_piece o c.args.member c.args.bottom) none)

pub returns-in-Some : goal.returns-in-Some
returns-in-Some c =
    let look = c.get.ensures.lookup in
    let some : slice_get c.args.lives.now c.args.member ≡ Some c.in-Some.life.now =
    ap (slice_get c.args.lives.now) (sym c.from.ensures) ∙ looked_up c.args.lives.now c.from.result c.get.result _ look.3 look.1
    ∙ ap (option_map (λ x. x.now)) c.in-Some.is in
    named c.lifeline.result c.args.drawing.now c.lifeline.new.self (Piece c.line.result c.x_of.result c.in-Some.life.now.drawn c.args.bottom ∷ [])
    (last_piece (slice_get c.args.lives.now c.args.member) c.args.member c.args.bottom)
    (piece_is c.in-Some.life.now c.args.member c.args.bottom c.line.result c.x_of.result (search (rules, c.line.ensures)) (search (rules, c.x_of.ensures))
    ∙ ap (λ (o : Option Life). last_piece o c.args.member c.args.bottom) (sym some)) c.lifeline.ensures
