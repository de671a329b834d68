use Rattle.std.proofs.Common.{◌∙◌, sym, subst}
use Rattle.terms_prelude.specs.Terms.{Header}
use Rattle.node.specs.States.{IsStateOf}
use Rattle.node.proofs.hub.Hub.state.Goals as goal

pub returns : goal.returns
returns g c = (
  c.deref.result.now.log,
  subst (λ (header : Header). IsStateOf g.row.D.Denot header g.J.Naming.opening c.deref.result.now.log c.args.question c.state_of.result)
      (sym c.header-named.ensures.named ∙ c.header-named.ensures.hub) c.state_of.ensures,
)
