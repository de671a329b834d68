use Rattle.std.proofs.Common.{◌≡◌, ◌++◌}
use Rattle.sim.specs.Outcomes.{verdicts_below}
use Rattle.sim.proofs.cluster.append_decisions.Given as goal

abbrev pub invariant-loop-question : goal.invariant-loop-question
invariant-loop-question l = l.verdicts.items ≡ l.initial.verdicts.items ++ verdicts_below l.question l.me l.records
