use Rattle.std.proofs.Common.{inl, inr, refl, sym, ◌∙◌, true≢false}
use Rattle.desk.proofs.serving.leave.Goals as goal

pub returns-then-is_lost-clause-over : goal.returns-then-is_lost-clause-over
returns-then-is_lost-clause-over g c = λ calm. absurd (calm (c.is_lost.ensures.0 c.if-is_lost.true))

pub returns-in-Ok-clause-lost : goal.returns-in-Ok-clause-lost
returns-in-Ok-clause-lost g c = λ lost. absurd (true≢false (sym (c.is_lost.ensures.1 lost) ∙ c.if-is_lost.false))

pub returns-in-Ok-clause-over : goal.returns-in-Ok-clause-over
returns-in-Ok-clause-over g c = λ calm. inl (refl, c.in-Ok.ensures.ok)

pub returns-in-Err-clause-lost : goal.returns-in-Err-clause-lost
returns-in-Err-clause-lost g c = λ lost. absurd (true≢false (sym (c.is_lost.ensures.1 lost) ∙ c.if-is_lost.false))

pub returns-in-Err-clause-over : goal.returns-in-Err-clause-over
returns-in-Err-clause-over g c = λ calm. inr c.in-Err.ensures.err
