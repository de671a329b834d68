use Rattle.std.proofs.Common.{List, refl, subst}
use Rattle.node.specs.States.{IsStateOf}
use Rattle.node.specs.Words.{Group}
use Rattle.node.proofs.state.state_for.Goals as goal

pub returns-clause-some : goal.returns-clause-some
returns-clause-some g c = (
  c.if-not-see.ensures.sees refl,
  subst (λ (l : List Group). IsStateOf g.row.D.Denot g.J.Naming.header g.J.Naming.opening l c.args.question c.state_of.result)
      (c.if-not-see.ensures.book refl).log_is c.state_of.ensures,
)
