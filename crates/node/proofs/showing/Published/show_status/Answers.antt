use Rattle.std.proofs.Common.{sym}
use Rattle.node.proofs.showing.Published.show_status.Goals as goal

pub invariant_of-self : goal.invariant_of-self
invariant_of-self g c = (
  record {
    book = c.args.book.now;
    book_is = record { of_hub = c.status_of-self-inside.ensures.book; opening_is = c.status_of-self-inside.ensures.opening; log_is = sym c.witness.ensures };
    status_is = c.status_of-self-inside.ensures.status;
  },
  c.self.invariant.1,
)
