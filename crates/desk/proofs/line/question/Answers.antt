use Rattle.desk.proofs.Words.{number_of}
use Rattle.desk.proofs.line.question.Goals as goal

pub returns-in-Some-clause-exact : goal.returns-in-Some-clause-exact
returns-in-Some-clause-exact c = λ question is. c.in-Some.ensures.exact question (number_of c.args.digits.now question is)

pub returns-in-None-clause-exact : goal.returns-in-None-clause-exact
returns-in-None-clause-exact c = λ question is. c.in-None.ensures.exact question (number_of c.args.digits.now question is)
