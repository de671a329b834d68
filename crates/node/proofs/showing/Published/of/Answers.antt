use Rattle.std.proofs.Common.{List, rules, subst, sym}
use Rattle.node.specs.declared.order.Decision.{Decision}
use Rattle.node.specs.Words.{AreDecisionsOf}
use Rattle.node.proofs.showing.Published.of.Goals as goal

pub invariant_of-result : goal.invariant_of-result
invariant_of-result g c = (
  record { book = c.args.book.now; book_is = record { of_hub = c.status_of.ensures.book; opening_is = c.status_of.ensures.opening; log_is = search rules }; status_is = c.status_of.ensures.status },
  subst (λ (l : List Decision). AreDecisionsOf g.row.D.Denot g.J.Naming.header l) (sym c.in_ok-decisions.ensures.items) c.decisions_of.ensures,
)
