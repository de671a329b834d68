use Rattle.std.proofs.Common.{ℕ, ◌≡◌, inl, inr, rules, subst}
use Rattle.std.specs.List.{Contains}
use Rattle.std.specs.Global.{Vec}
use Rattle.epochs.proofs.state.State.leave.Goals as goal

pub returns-clause-only : goal.returns-clause-only
returns-clause-only g c =
    let same : c.change.new.self.undone ≡ c.args.self.now.undone = search rules in
    λ one has. elim (c.end.ensures.only one has) [
      | inl stood ↦ inl (subst (λ (u : Vec ℕ). Contains u.items one) same stood)
      | inr here ↦ inr here
    ]
