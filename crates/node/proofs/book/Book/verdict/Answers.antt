use Rattle.std.proofs.Common.{◌≤◌, ap, ◌∙◌, sym, subst}
use Rattle.member.specs.Words.{member_header, member_saved, verdict_of}
use Rattle.node.specs.Words.{BookView}
use Rattle.node.proofs.Tallying.{kept_verdict, kept_asked}
use Rattle.node.proofs.book.Book.verdict.Goals as goal

pub returns-clause-decided : goal.returns-clause-decided
returns-clause-decided g c =
    c.verdict.ensures
    ∙ kept_verdict g.D.Disk g.J.Naming.names.cells g.J.Naming.header c.self.inside.publisher.cells c.self.inside.member c.self.inside.opened c.self.inside.history.entries c.self.inside.publisher.known c.self.inside.tally c.self.invariant.0 c.args.question
    ∙ ap (λ (v : BookView g.row.D.Denot). verdict_of (member_saved v.member) c.args.question) c.self.view_is

pub returns-clause-asked : goal.returns-clause-asked
returns-clause-asked g c = λ past.
    c.verdict.ensures
    ∙ kept_asked g.D.Disk g.J.Naming.names.cells g.J.Naming.header c.self.inside.publisher.cells c.self.inside.member c.self.inside.opened c.self.inside.history.entries c.self.inside.publisher.known c.self.inside.tally c.self.invariant.0 c.args.question
    (subst (λ (v : BookView g.row.D.Denot). (member_header v.member).size.questions ≤ c.args.question) (sym c.self.view_is) past)
