use Rattle.std.proofs.Common.{List, ℕ, subst, sym}
use Rattle.gateway.specs.Replies.{AreQuestionAndBit}
use Rattle.gateway.proofs.Cuts.{never}
use Rattle.gateway.proofs.replies.decided_reply.Goals as goal

pub returns-in-None-question_and_bit-clause-none : goal.returns-in-None-question_and_bit-clause-none
returns-in-None-question_and_bit-clause-none c = λ none question bit is.
    never (question, bit) (c.in-None-question_and_bit.ensures.exact question bit
    (subst (λ (words : List ℕ). AreQuestionAndBit words question bit) (sym (c.in-Some.ensures.exact is.0 is.1)) is.2))
