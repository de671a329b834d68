use Rattle.std.proofs.Common.{inl, subst, sym}
use Rattle.std.specs.List.{Contains}
use Rattle.epochs.specs.declared.state.State.{State}
use Rattle.epochs.proofs.Undone.{others_stay, it_goes, it_stood}
use Rattle.epochs.proofs.state.State.end.Goals as goal

pub returns-then-is_gone-clause-undone : goal.returns-then-is_gone-clause-undone
returns-then-is_gone-clause-undone g c =
    λ other differs has. subst (λ (s : State). Contains s.undone.items other) (sym c.close.ensures.rest)
    (others_stay c.args.epoch c.args.self.now.undone.items _ c.finish.ensures.gone other differs has)

pub returns-then-is_gone-clause-gone : goal.returns-then-is_gone-clause-gone
returns-then-is_gone-clause-gone g c =
    λ _ has. it_goes c.args.epoch c.args.self.now.undone.items _ c.finish.ensures.gone
    (subst (λ (s : State). Contains s.undone.items c.args.epoch) c.close.ensures.rest has)

pub returns-then-is_gone-clause-only : goal.returns-then-is_gone-clause-only
returns-then-is_gone-clause-only g c =
    λ one has. inl (it_stood c.args.epoch c.args.self.now.undone.items _ c.finish.ensures.gone one
    (subst (λ (s : State). Contains s.undone.items one) c.close.ensures.rest has))
