use Rattle.std.proofs.Common.{◌∙◌, sym, subst}
use Rattle.terms_prelude.specs.Terms.{Header}
use Rattle.node.specs.Words.{IsStanding}
use Rattle.node.proofs.hub.Hub.status.Goals as goal

pub returns : goal.returns
returns g c = (
  c.deref.result.now.log,
  subst (λ (header : Header). IsStanding g.row.D.Denot header g.J.Naming.opening c.deref.result.now.log c.status.result)
      (sym c.header-named.ensures.named ∙ c.header-named.ensures.hub) c.status.ensures.standing,
)
