use Rattle.std.proofs.Common.{sym, ap, subst, ◌∙◌}
use Rattle.std.proofs.lemmas.List.{get_or_default}
use Rattle.rbc.specs.Words.{Cell, IsAt, no_cell, touched_known}
use Rattle.rbc.proofs.Touching.{known_at, nothing_at}
use Rattle.rbc.proofs.table.Touched.at.Goals as goal

pub returns-in-Some : goal.returns-in-Some
returns-in-Some c =
    let at : IsAt c.self.inside.cells.items c.in-Some.number c.args.spot =
    subst (λ s. IsAt s c.in-Some.number c.args.spot) c.deref-2.ensures.value c.in-Some.ensures.some in
    ap (λ (x : Cell). x.known) (c.index.ensures ∙ get_or_default c.self.inside.cells.items c.in-Some.number _ no_cell at.within)
    ∙ sym (known_at c.self.inside.cells.items c.in-Some.number c.args.spot c.self.invariant.apart.apart at)
    ∙ ap (λ s. touched_known s c.args.spot) c.self.view_is

pub returns-in-None : goal.returns-in-None
returns-in-None c =
    c.nothing.ensures
    ∙ sym (nothing_at c.deref-2.result.now c.args.spot c.in-None.ensures.none)
    ∙ ap (λ s. touched_known s c.args.spot) (c.deref-2.ensures.value ∙ c.self.view_is)
