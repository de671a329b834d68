use Rattle.gateway.proofs.requests.proposal_task.Goals as goal

pub returns-in-Some-clause-err : goal.returns-in-Some-clause-err
returns-in-Some-clause-err c = c.in-Some.ensures.some c.args.scope c.args.question
