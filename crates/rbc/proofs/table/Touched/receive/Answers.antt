use Rattle.std.proofs.Common.{◌≡◌, List, set, cond, eqb, refl, sym, ap, subst, ◌∙◌}
use Rattle.std.proofs.lemmas.Bool.{eq-eqb}
use Rattle.std.proofs.lemmas.List.{get_or_default}
use Rattle.rbc.specs.Words.{Cell, IsAt, Known, Receives, no_cell, touched_known}
use Rattle.rbc.proofs.Touching.{known_at, tagged_written}
use Rattle.rbc.proofs.table.Touched.receive.Goals as goal

pub returns-clause-taken : goal.returns-clause-taken
returns-clause-taken c = λ spot at.
    let here : IsAt c.self.inside.cells.items c.args.number spot = subst (λ (s : List Cell). IsAt s c.args.number spot) (sym c.self.view_is) at in
    let value = c.index_mut.ensures.value ∙ get_or_default c.self.inside.cells.items c.args.number _ no_cell here.within in
    let was : c.index_mut.result.now.known ≡ touched_known c.args.self.now spot =
    ap (λ (x : Cell). x.known) value
    ∙ sym (known_at c.self.inside.cells.items c.args.number spot c.self.invariant.apart.apart here)
    ∙ ap (λ (s : List Cell). touched_known s spot) c.self.view_is in
    let tag : c.index_mut.result.now.spot ≡ spot = ap (λ (x : Cell). x.spot) value ∙ here.is in
    let is = tagged_written c.self.inside.cells.items c.args.number spot _ c.receive.new.known spot c.self.invariant.apart.apart here tag
    ∙ ap (λ t. cond t c.receive.new.known (touched_known c.self.inside.cells.items spot)) (eq-eqb spot spot refl) in
    let then : Known = touched_known (set c.self.inside.cells.items c.args.number (record { spot = c.index_mut.result.now.spot; known = c.receive.new.known })) spot in
    subst (λ (x : Known). Receives c.args.size c.args.from c.args.s.now x then c.receive.result) was
    (subst (λ (x : Known). Receives c.args.size c.args.from c.args.s.now c.index_mut.result.now.known x c.receive.result) (sym is) c.receive.ensures)

pub returns-clause-others : goal.returns-clause-others
returns-clause-others c = λ spot at other.
    let here : IsAt c.self.inside.cells.items c.args.number spot = subst (λ (s : List Cell). IsAt s c.args.number spot) (sym c.self.view_is) at in
    let value = c.index_mut.ensures.value ∙ get_or_default c.self.inside.cells.items c.args.number _ no_cell here.within in
    let tag : c.index_mut.result.now.spot ≡ spot = ap (λ (x : Cell). x.spot) value ∙ here.is in
    let is = tagged_written c.self.inside.cells.items c.args.number spot _ c.receive.new.known spot c.self.invariant.apart.apart here tag
    ∙ ap (λ t. cond t c.receive.new.known (touched_known c.self.inside.cells.items spot)) (eq-eqb spot spot refl) in
    tagged_written c.self.inside.cells.items c.args.number spot _ c.receive.new.known other c.self.invariant.apart.apart here tag
    ∙ (λ i. cond (eqb other spot) (sym is i) (touched_known (c.self.view_is i) other))
