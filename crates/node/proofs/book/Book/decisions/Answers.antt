use Rattle.std.proofs.Common.{sym, subst, List}
use Rattle.member.specs.Words.{member_saved}
use Rattle.node.specs.declared.order.Decision.{Decision}
use Rattle.node.specs.Words.{AreDecisions, BookView}
use Rattle.node.proofs.Ordering.{kept_ordered}
use Rattle.node.proofs.book.Book.decisions.Goals as goal

pub returns : goal.returns
returns g c =
    subst (λ (l : List Decision). AreDecisions g.J.Naming.header.size.questions (member_saved c.args.self.now.member) l) (sym c.decisions.ensures)
    (subst (λ (v : BookView g.row.D.Denot). AreDecisions g.J.Naming.header.size.questions (member_saved v.member) c.self.inside.tally.order.items) c.self.view_is
    (kept_ordered g.D.Disk g.J.Naming.names.cells g.J.Naming.header c.self.inside.publisher.cells c.self.inside.member c.self.inside.opened c.self.inside.history.entries c.self.inside.publisher.known c.self.inside.tally c.self.invariant.0))
