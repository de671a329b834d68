use Rattle.std.proofs.Common.{sym, ap, subst, ◌∙◌, ◌≡◌}
use Rattle.member.specs.declared.member.Member.{Member}
use Rattle.member.specs.Words.{MemberIsAt, member_is_stopped}
use Rattle.node.proofs.Replaying.{members_are}
use Rattle.node.proofs.book.Book.stop.Goals as goal

pub returns-clause-life : goal.returns-clause-life
returns-clause-life g c = λ header liars w correct at up.
    let same : c.args.self.now.member ≡ c.self.inside.member = sym (members_are c.self.view_is) in
    c.stop.ensures.life header liars w correct (subst (λ (n : Member g.row.D.Denot). MemberIsAt g.D.Disk header w n) same at)
    (ap (λ (n : Member g.row.D.Denot). member_is_stopped n) (sym same) ∙ up)
