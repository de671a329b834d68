use Rattle.std.proofs.Common.{List, ℕ, subst, sym}
use Rattle.gateway.specs.Replies.{AreTwo}
use Rattle.gateway.proofs.Cuts.{never}
use Rattle.gateway.proofs.replies.epochs_reply.Goals as goal

pub returns-in-None-two_numbers-clause-none : goal.returns-in-None-two_numbers-clause-none
returns-in-None-two_numbers-clause-none c = λ none closed newest is.
    never (closed, newest) (c.in-None-two_numbers.ensures.exact closed newest
    (subst (λ (words : List ℕ). AreTwo words closed newest) (sym (c.in-Some.ensures.exact is.0 is.1)) is.2))
