use Rattle.std.proofs.Common.{◌≡◌, drop}
use Rattle.terms_prelude.specs.Terms.{decided}
use Rattle.sim.proofs.cluster.decision.Given as goal

abbrev pub invariant-loop-item : goal.invariant-loop-item
invariant-loop-item l = decided l.records l.question ≡ decided (drop l.item-index l.records) l.question
