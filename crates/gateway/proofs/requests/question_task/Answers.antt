use Rattle.std.proofs.Common.{arith, inr, refl}
use Rattle.gateway.proofs.requests.question_task.Goals as goal

pub returns-in-None-clause-err : goal.returns-in-None-clause-err
returns-in-None-clause-err c = inr (refl, omega (arith, c.questions.ensures, c.if-question-questions.false), c.in-None.ensures.none refl)
