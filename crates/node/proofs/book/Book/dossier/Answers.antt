use Rattle.std.proofs.Common.{rules, ◌≡◌, ◌<◌, Some, None, subst}
use Rattle.member.specs.Words.{member_saved, verdict_of}
use Rattle.node.specs.Words.{BookView, IsHeardProof, questions_of}
use Rattle.node.proofs.Thin.{kept_shows}
use Rattle.node.proofs.book.Book.dossier.Goals as goal

pub returns-in-Ok-clause-ok : goal.returns-in-Ok-clause-ok
returns-in-Ok-clause-ok g c =
    let verdict : verdict_of (member_saved c.args.self.now.member) c.args.question ≡ Some c.in-Some.bit = search rules in
    let asked : c.args.question < questions_of c.args.self.now = search rules in
    let shows : (c.args.question < questions_of c.args.self.now) → verdict_of (member_saved c.args.self.now.member) c.args.question ≡ Some c.in-Some.bit
    → verdict_of c.args.self.now.opening c.args.question ≡ None → IsHeardProof c.args.self.now c.args.question c.in-Some.bit =
    subst (λ (b : BookView g.row.D.Denot). (c.args.question < questions_of b) → verdict_of (member_saved b.member) c.args.question ≡ Some c.in-Some.bit
    → verdict_of b.opening c.args.question ≡ None → IsHeardProof b c.args.question c.in-Some.bit) c.self.view_is
    (kept_shows g.D.Disk g.J.Naming.names.cells g.J.Naming.header c.self.inside.publisher.cells c.self.inside.member c.self.inside.opened c.self.inside.history.entries c.self.inside.publisher.known c.self.inside.tally
    c.self.invariant.0 c.args.question c.in-Some.bit) in
    record {
      asked = asked;
      size_is = search rules;
      question_is = search rules;
      decided = search rules;
      heard = search rules;
      shows = search (rules, shows asked verdict);
    }
