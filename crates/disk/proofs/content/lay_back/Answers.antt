-- The last byte is laid back, where it has a place.
use Rattle.std.proofs.Common.{rules, ◌∙◌, ap, sym, List, ℕ}
use Rattle.std.proofs.lemmas.List.{set_past}
use Rattle.disk.specs.Under.{laid_back}
use Rattle.disk.proofs.Under.{laid_back_last}
use Rattle.disk.proofs.content.lay_back.Goals as goal

pub loop-place-preserved-then-place-file : goal.loop-place-preserved-then-place-file
loop-place-preserved-then-place-file c =
    laid_back_last c.pop.new.self.items c.loop-place.under.items c.in-Some.place c.in-Some.byte c.loop-place.file c.in-Some.ensures.items ∙ c.loop-place.invariant

pub loop-place-preserved : goal.loop-place-preserved
loop-place-preserved c =
    ap (λ (l : List ℕ). laid_back c.pop.new.self.items l) (sym (set_past c.loop-place.file c.in-Some.place c.in-Some.byte (search (rules, c.if-place-file.false))))
    ∙ laid_back_last c.pop.new.self.items c.loop-place.under.items c.in-Some.place c.in-Some.byte c.loop-place.file c.in-Some.ensures.items ∙ c.loop-place.invariant
