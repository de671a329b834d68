use Rattle.std.proofs.Common.{inl, refl}
use Rattle.gateway.proofs.requests.bit_task.Goals as goal

pub returns-in-Ok-None-clause-err : goal.returns-in-Ok-None-clause-err
returns-in-Ok-None-clause-err c =
    let none = rw c.in-Ok-None.field-0-is at c.in-Ok-None.ensures.none in
    inl (refl, none refl)
