use Rattle.std.proofs.Common.{◌≡◌, true, false, inl, inr, refl}
use Rattle.gateway.proofs.requests.task_of.Goals as goal

pub returns-then-not-is_own_host-clause-err : goal.returns-then-not-is_own_host-clause-err
returns-then-not-is_own_host-clause-err c =
    inl (refl, λ own. (let no : false ≡ true = c.if-not-is_own_host.ensures.1 own in cc))

pub returns-in-None-clause-err : goal.returns-in-None-clause-err
returns-in-None-clause-err c = inr (inl (refl, c.if-not-is_own_host.ensures.0 refl, c.in-None.ensures.none refl))
