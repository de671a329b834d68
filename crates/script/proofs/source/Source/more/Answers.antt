use Rattle.std.proofs.Common.{◌≡◌, ◌∙◌, [], ap, sym, subst, List, ℕ}
use Rattle.std.specs.Vec.Iter.{into_iter_items}
use Rattle.script.specs.Words.{Order, Made, after_step, order_step, SourceFields}
use Rattle.script.proofs.Sources.{next_piece}
use Rattle.script.proofs.source.Source.more.Goals as goal

pub returns-clause-gives : goal.returns-clause-gives
returns-clause-gives c =
    let inside = c.self.inside in
    let rest = c.in_ok-self-inside.field-0 in
    let now : Made = c.take_piece.new.self in
    let none : Made = record { events = []; stream = inside.making.stream } in
    let same : after_step inside.size c.deref.result.now (order_step rest) now ≡ after_step inside.size c.deref.result.now (order_step inside.rest) none =
    c.in_ok-self-inside.ensures.ok
    ∙ (ap (λ (o : Order). after_step inside.size c.deref.result.now (order_step o) c.clear.new.self) c.replace-order.ensures.value
    ∙ ap (λ (m : Made). after_step inside.size c.deref.result.now (order_step inside.rest) m) c.clear.ensures) in
    sym (ap (λ (s : SourceFields). s.left) c.self.view_is)
    ∙ next_piece inside.size inside.correct.items inside.rest rest (into_iter_items inside.orders) inside.making.stream now
    (subst (λ (l : List ℕ). after_step inside.size l (order_step rest) now ≡ after_step inside.size l (order_step inside.rest) none) c.deref.ensures.value same)
