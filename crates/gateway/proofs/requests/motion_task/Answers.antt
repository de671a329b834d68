use Rattle.std.proofs.Common.{arith, refl}
use Rattle.gateway.proofs.requests.motion_task.Goals as goal

pub returns-in-None-clause-err : goal.returns-in-None-clause-err
returns-in-None-clause-err c = (c.requires, omega (arith, c.questions.ensures, c.if-question-questions.false), c.in-None.ensures.none refl)
