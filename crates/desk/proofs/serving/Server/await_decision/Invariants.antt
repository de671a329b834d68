use Rattle.std.proofs.Common.{◌≡◌}
use mathlib.Core.List.{IsPrefix}
use Rattle.links.specs.Told.{has_written}
use Rattle.node.specs.Verdicts.{KnowsMore}
use Rattle.desk.proofs.serving.Server.await_decision.Given as goal

abbrev pub invariant-loop : goal.invariant-loop
invariant-loop g l = (l.pass.board ≡ g.J.Naming.names) × KnowsMore l.initial.pass.known l.pass.known × IsPrefix l.initial.pass.log l.pass.log
    × (has_written (g.S.Stream.told l.stream) l.held.items ≡ has_written (g.S.Stream.told l.initial.stream) l.initial.held.items)
