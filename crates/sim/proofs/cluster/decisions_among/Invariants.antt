use Rattle.std.proofs.Common.{◌≡◌, ◌++◌, ℕ, drop}
use Rattle.terms_prelude.specs.Terms.{decided}
use Rattle.sim.proofs.cluster.decisions_among.Given as goal

-- with the records that are left they decide what all do
abbrev pub invariant-loop-item : goal.invariant-loop-item
invariant-loop-item l = (question : ℕ) → decided (l.decisions.items ++ drop l.item-index l.records) question ≡ decided l.records question
