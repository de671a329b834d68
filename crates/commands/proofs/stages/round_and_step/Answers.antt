use Rattle.std.proofs.Common.{true≢false, sym, ◌∙◌}
use Rattle.commands.proofs.Staging.{same_step}
use Rattle.commands.proofs.stages.round_and_step.Goals as goal

pub returns-then-is_round_and_step-clause-exact : goal.returns-then-is_round_and_step-clause-exact
returns-then-is_round_and_step-clause-exact c = λ r s are. c.in-Some.ensures.exact r s are.0

pub returns-else-is_round_and_step-clause-exact : goal.returns-else-is_round_and_step-clause-exact
returns-else-is_round_and_step-clause-exact c = λ r s are.
    absurd (true≢false (sym (c.is_round_and_step.ensures.1 (same_step c.in-Some.round c.in-Some.step r s (c.in-Some.ensures.exact r s are.0) are.1)) ∙ c.if-is_round_and_step.false))

pub returns-in-None-clause-exact : goal.returns-in-None-clause-exact
returns-in-None-clause-exact c = λ r s are. c.in-None.ensures.exact r s are.0
