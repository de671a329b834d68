use Rattle.std.proofs.Common.{◌<◌, List}
use Rattle.gateway.specs.Watches.{AreContradictions, Watches, watch_first, watch_size}
use Rattle.gateway.specs.declared.watch.Told.{Told}
use Rattle.gateway.proofs.watch.Watch.contradictions.Given as goal

-- the questions so far have their contradictions
abbrev pub invariant-loop-place : goal.invariant-loop-place
invariant-loop-place l =
    (heard : List Told) → Watches l.self heard → l.member < 64 →
    AreContradictions (watch_size l.self) heard l.member (watch_first l.self) l.place l.found.items
