use Rattle.std.proofs.Common.{◌≡◌, ◌≤◌, []}
use Rattle.terms_prelude.specs.Terms.{Size}
use Rattle.sim.specs.declared.TheConstants.{MOST_EVENTS}
use Rattle.script.specs.Making.{Made}
use Rattle.script.proofs.Counted.{ReadSoFar}
use Rattle.script.proofs.orders.orders.Given as goal

abbrev pub invariant-loop-line : goal.invariant-loop-line
invariant-loop-line l = record {
  few : l.count ≤ MOST_EVENTS;
  read : (size : Size) (start : Made) → start.events ≡ [] → ReadSoFar size l.correct start l.lines l.line-index l.orders.items l.count;
}
