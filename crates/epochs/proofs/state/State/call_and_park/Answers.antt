use Rattle.std.proofs.Common.{inl, inr, subst, sym}
use Rattle.std.specs.List.{Contains}
use Rattle.epochs.specs.declared.state.State.{State}
use Rattle.epochs.proofs.state.State.call_and_park.Goals as goal

pub returns-then-is_ok-clause-undone : goal.returns-then-is_ok-clause-undone
returns-then-is_ok-clause-undone c =
    λ one has. subst (λ (s : State). Contains s.undone.items one) (sym c.park.ensures.rest) (c.call.ensures.undone one has)

pub returns-then-is_ok-clause-only : goal.returns-then-is_ok-clause-only
returns-then-is_ok-clause-only c =
    λ one has. elim (c.call.ensures.only one (subst (λ (s : State). Contains s.undone.items one) c.park.ensures.rest has)) [
      | inl stood ↦ inl stood
      | inr new ↦ inr new.0
    ]

pub returns-else-is_ok-clause-only : goal.returns-else-is_ok-clause-only
returns-else-is_ok-clause-only c = λ one has. elim (c.call.ensures.only one has) [ inl stood ↦ inl stood | inr new ↦ inr new.0 ]
