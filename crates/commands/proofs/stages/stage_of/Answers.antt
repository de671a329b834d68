use Rattle.std.proofs.Common.{true≢false, sym, ◌∙◌}
use Rattle.commands.proofs.Staging.{said_stage}
use Rattle.commands.proofs.stages.stage_of.Goals as goal

pub returns-clause-exact : goal.returns-clause-exact
returns-clause-exact c = said_stage c.args.reply.now c.open_stage.result
    (λ e. true≢false (sym (c.is.ensures.1 e) ∙ c.if-is.false)) (λ e. true≢false (sym (c.is-2.ensures.1 e) ∙ c.if-is-2.false))
    c.open_stage.ensures.exact
