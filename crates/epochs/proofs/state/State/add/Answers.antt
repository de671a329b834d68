use Rattle.std.proofs.Common.{ℕ, ◌≡◌, ◌≤◌, ◌∙◌, inl, inr, length, rules, subst}
use Rattle.std.specs.List.{Contains}
use Rattle.epochs.specs.Opens.{WasLeftOut}
use Rattle.epochs.proofs.Undone.{kept_past}
use Rattle.epochs.proofs.state.State.add.Goals as goal

pub returns-clause-open : goal.returns-clause-open
returns-clause-open c =
    let at : c.made-epoch.result ≡ length c.args.self.now.verdicts.items = search rules in
    let past : length c.begin_if.new.self.verdicts.items ≤ c.made-epoch.result = search rules in
    λ partial. subst (λ (epoch : ℕ). Contains c.call_if.new.self.undone.items epoch) at
    (c.in_ok-call_if.ensures.called (c.has_open.ensures ∙ partial) (kept_past c.begin_if.new.self c.made-epoch.result past))

pub returns-clause-only : goal.returns-clause-only
returns-clause-only c =
    let at : c.made-epoch.result ≡ length c.args.self.now.verdicts.items = search rules in
    λ one has. elim (c.in_ok-call_if.ensures.only one has) [
      | inl stood ↦ elim (c.in_ok-begin_if.ensures.only one stood) [
        | inl before ↦ inl before
        | inr left ↦ inr (inr (subst (λ (epoch : ℕ). WasLeftOut c.args.self.now epoch one) at left))
      ]
      | inr here ↦ inr (inl (here ∙ at))
    ]
