-- Objects of JSON that say the same as replies.
use Rattle.std.proofs.Common.{refl, inl, inr, Bool, true, false, Option, Some, None}
use Rattle.commands.specs.Replies.{SaysSame}
use Rattle.commands.specs.Talks.{decision_object, decision_reply}

-- that of a decision is
pub decision_says_same : (decision : Option Bool) → SaysSame (decision_reply decision) (decision_object decision)
decision_says_same (Some false) = inl (inl (inl (inl (inr (inr (inr (inl (refl, refl))))))))
decision_says_same (Some true) = inl (inl (inl (inl (inr (inr (inr (inr (inl (refl, refl)))))))))
decision_says_same None = inl (inl (inl (inl (inr (inr (inr (inr (inr (refl, refl)))))))))
