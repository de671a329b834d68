use Rattle.std.proofs.Common.{inr, refl, sym, ◌∙◌, true≢false}
use Rattle.commands.proofs.client.status_of.Goals as goal

pub returns-else-is_good : goal.returns-else-is_good
returns-else-is_good c = inr (refl, λ good. true≢false (sym (c.is_good.ensures.1 good) ∙ c.if-is_good.false))
