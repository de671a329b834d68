use Rattle.std.proofs.Common.{sym, ap, ◌∙◌, subst, inr, Bor, List, ℕ}
use Rattle.script.specs.Words.{SaysStep, texts}
use Rattle.script.proofs.orders.order_of.Goals as goal

pub returns-clause-err : goal.returns-clause-err
returns-clause-err c =
    let words_are = ap (λ (ws : List (Bor (List ℕ))). texts ws) c.deref.ensures.value ∙ c.in_ok-words.ensures in
    inr (
      λ step says. rw c.in-None.is at (c.in_ok-order.ensures.exact step (subst (λ (ws : List (List ℕ)). SaysStep ws step) (sym words_are) says)),
      c.fault.ensures,
    )
