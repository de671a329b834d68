use Rattle.std.proofs.Common.{inl, inr}
use Rattle.epochs.proofs.state.State.call_if.Goals as goal

pub returns-clause-only : goal.returns-clause-only
returns-clause-only c = λ one has. elim (c.call.ensures.only one has) [ inl stood ↦ inl stood | inr new ↦ inr new.0 ]
