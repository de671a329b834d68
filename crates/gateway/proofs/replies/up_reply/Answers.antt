use Rattle.std.proofs.Common.{List, ℕ, subst, sym}
use Rattle.gateway.specs.Replies.{AreTwo}
use Rattle.gateway.proofs.Cuts.{never}
use Rattle.gateway.proofs.replies.up_reply.Goals as goal

pub returns-in-None-two_numbers-clause-none : goal.returns-in-None-two_numbers-clause-none
returns-in-None-two_numbers-clause-none c = λ none statements decided is.
    never (statements, decided) (c.in-None-two_numbers.ensures.exact statements decided
    (subst (λ (words : List ℕ). AreTwo words statements decided) (sym (c.in-Some.ensures.exact is.0 is.1)) is.2))
