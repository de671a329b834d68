use Rattle.std.proofs.Common.{◌≡◌, List, cond, eqb, sym, ap, subst, ◌∙◌}
use Rattle.std.proofs.lemmas.List.{get_or_default}
use Rattle.rbc.specs.Words.{Cell, IsAt, Known, say_known, no_cell, touched_known}
use Rattle.rbc.proofs.Touching.{known_at, tagged_written}
use Rattle.rbc.proofs.table.Touched.say.Goals as goal

pub returns : goal.returns
returns c = λ spot at other.
    let here : IsAt c.self.inside.cells.items c.args.number spot = subst (λ (s : List Cell). IsAt s c.args.number spot) (sym c.self.view_is) at in
    let value = c.index_mut.ensures.value ∙ get_or_default c.self.inside.cells.items c.args.number _ no_cell here.within in
    let was : c.index_mut.result.now.known ≡ touched_known c.args.self.now spot =
    ap (λ (x : Cell). x.known) value
    ∙ sym (known_at c.self.inside.cells.items c.args.number spot c.self.invariant.apart.apart here)
    ∙ ap (λ (s : List Cell). touched_known s spot) c.self.view_is in
    let tag : c.index_mut.result.now.spot ≡ spot = ap (λ (x : Cell). x.spot) value ∙ here.is in
    let known : c.say.new.known ≡ say_known (touched_known c.args.self.now spot) c.args.s.now.kind c.args.s.now.value =
    c.say.ensures ∙ ap (λ (k : Known). say_known k c.args.s.now.kind c.args.s.now.value) was in
    tagged_written c.self.inside.cells.items c.args.number spot _ c.say.new.known other c.self.invariant.apart.apart here tag
    ∙ (λ i. cond (eqb other spot) (known i) (touched_known (c.self.view_is i) other))
