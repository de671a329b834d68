use Rattle.commands.proofs.Staging.{same_open, no_open, open_behind}
use Rattle.commands.proofs.stages.open_stage.Goals as goal

pub returns-in-Some-round_and_step-clause-exact : goal.returns-in-Some-round_and_step-clause-exact
returns-in-Some-round_and_step-clause-exact c = λ r s says.
    same_open c.in-Some-round_and_step.round c.in-Some-round_and_step.step r s
    (c.in-Some-round_and_step.ensures.exact r s (open_behind c.args.reply.now c.in-Some.words.now r s c.in-Some.ensures.some says))

pub returns-in-None-round_and_step-clause-exact : goal.returns-in-None-round_and_step-clause-exact
returns-in-None-round_and_step-clause-exact c = λ r s says.
    absurd (no_open r s (c.in-None-round_and_step.ensures.exact r s (open_behind c.args.reply.now c.in-Some.words.now r s c.in-Some.ensures.some says)))
