use Rattle.std.proofs.Common.{inl, inr, refl}
use Rattle.commands.proofs.replies.other_object.Goals as goal

pub returns-then-is-3-clause-some : goal.returns-then-is-3-clause-some
returns-then-is-3-clause-some c = inr (inr (inl (c.if-is-3.ensures.0 refl, refl)))

pub returns-then-is-4-clause-some : goal.returns-then-is-4-clause-some
returns-then-is-4-clause-some c = inr (inr (inr (inl (c.if-is-4.ensures.0 refl, refl))))
