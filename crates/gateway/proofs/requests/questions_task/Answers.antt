use Rattle.std.proofs.Common.{ℕ, refl, subst}
use Rattle.gateway.specs.Queries.{IsRange}
use Rattle.gateway.proofs.requests.questions_task.Goals as goal

pub returns-in-None-clause-err : goal.returns-in-None-clause-err
returns-in-None-clause-err c = (
  refl,
  subst (λ (n : ℕ). (from to : ℕ) → IsRange n c.args.request.now.query.now from to → ⊥) c.questions.ensures (c.in-None.ensures.none refl),
)
