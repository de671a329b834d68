use Rattle.std.proofs.Common.{inl, inr}
use Rattle.epochs.proofs.Undone.{others_stay, it_goes, it_stood}
use Rattle.epochs.proofs.state.State.set_done.Goals as goal

pub returns-then-is_done-clause-others : goal.returns-then-is_done-clause-others
returns-then-is_done-clause-others c = others_stay c.args.epoch c.args.self.now.undone.items _ c.finish.ensures.gone

pub returns-then-is_done-clause-done : goal.returns-then-is_done-clause-done
returns-then-is_done-clause-done c = λ _. it_goes c.args.epoch c.args.self.now.undone.items _ c.finish.ensures.gone

pub returns-then-is_done-clause-only : goal.returns-then-is_done-clause-only
returns-then-is_done-clause-only c =
    λ one has. inl (it_stood c.args.epoch c.args.self.now.undone.items _ c.finish.ensures.gone one has)

pub returns-clause-only : goal.returns-clause-only
returns-clause-only c = λ one has. elim (c.call.ensures.only one has) [ inl stood ↦ inl stood | inr new ↦ inr new.0 ]
