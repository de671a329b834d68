use Rattle.std.proofs.Common.{rules, inr, refl, ◌∙◌, sym, Some}
use Rattle.commands.proofs.Counting.{never, no_reply}
use Rattle.commands.proofs.replies.plain_object.Goals as goal

pub returns-in_ok-up_object-in-Some-counts-clause-some : goal.returns-in_ok-up_object-in-Some-counts-clause-some
returns-in_ok-up_object-in-Some-counts-clause-some c = inr (c.in-Some-counts.statements, c.in-Some-counts.decided, c.in-Some-counts.ensures.some, c.in_ok-up_object-in-Some-counts.ensures)

pub returns-in-None-clause-none : goal.returns-in-None-clause-none
returns-in-None-clause-none c = λ _ reply. no_reply c.args.reply.now (c.in_default.ensures.none refl) (λ m d has. never _ (m, d) c.in-None.is (c.counts.ensures.exact m d has)) reply
