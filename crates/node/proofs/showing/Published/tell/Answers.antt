use Rattle.std.proofs.Common.{List, ◌∙◌, ap, refl, subst, sym}
use Rattle.node.specs.Words.{Group, IsStanding, PublishedView}
use Rattle.node.proofs.showing.Published.tell.Goals as goal

pub returns-clause-some : goal.returns-clause-some
returns-clause-some g c = (
  c.if-not-go_on.ensures.sees refl,
  subst (λ (l : List Group). IsStanding g.row.D.Denot g.J.Naming.header g.J.Naming.opening l c.status.result)
      (sym (c.if-not-go_on.ensures.log refl ∙ ap (λ (v : PublishedView). v.log) c.self.view_is)) c.status.ensures.standing,
)
