use Rattle.script.proofs.step.Order.behind.Goals as goal

pub returns-in-None-clause-exact : goal.returns-in-None-clause-exact
returns-in-None-clause-exact c = λ step says.
    let s = rw c.in-Rounds.is at says in
    let e = c.in-None.ensures.exact s.0 s.1 in
    cc

pub returns-in-None-count-clause-exact : goal.returns-in-None-count-clause-exact
returns-in-None-count-clause-exact c = λ step says.
    let s = rw c.in-Random.is at says in
    let e = c.in-None-count.ensures.exact s.0 s.1 in
    cc
