-- Events that came behind events that came.
use Rattle.std.proofs.Common.{subst, List, [], ◌∷◌, ◌++◌}
use Rattle.running.specs.declared.events.LogEvent.{LogEvent}
use Rattle.running.specs.Queues.{Waiting, HaveCome}

-- what came after what came
pub come_on : (old mid new : Waiting) (events more : List LogEvent) → HaveCome old events mid → HaveCome mid more new → HaveCome old (events ++ more) new
come_on old mid new [] more same come = subst (λ (w : Waiting). HaveCome w more new) same come
come_on old mid new (event ∷ events) more (next, first, rest) come = (next, first, come_on next mid new events more rest come)
