use Rattle.std.proofs.Common.{ℕ, ◌≡◌, ◌⊎◌, rules, subst}
use Rattle.std.specs.List.{Contains}
use Rattle.epochs.specs.Opens.{IsKept}
use Rattle.epochs.specs.declared.state.State.{State}
use Rattle.epochs.proofs.Undone.{of_these}
use Rattle.epochs.proofs.state.State.call_all.Goals as goal

pub returns-in_err-call-clause-only : goal.returns-in_err-call-clause-only
returns-in_err-call-clause-only c = λ one has.
    of_these (IsKept c.args.self.now) c.args.first c.loop-epoch.epoch c.args.end one c.loop-epoch.auto.epoch c.loop-epoch-test.true (c.loop-epoch.invariant.only one)
    (subst (λ (s : State). Contains c.loop-epoch.self.undone.items one ⊎ ((one ≡ c.loop-epoch.epoch) × IsKept s c.loop-epoch.epoch)) c.loop-epoch.invariant.rest
    (c.call.ensures.only one has))

pub loop-epoch-preserved : goal.loop-epoch-preserved
loop-epoch-preserved c =
    let only = λ (one : ℕ) (has : Contains c.call.new.self.undone.items one).
    of_these (IsKept c.args.self.now) c.args.first c.loop-epoch.epoch c.args.end one c.loop-epoch.auto.epoch c.loop-epoch-test.true (c.loop-epoch.invariant.only one)
    (subst (λ (s : State). Contains c.loop-epoch.self.undone.items one ⊎ ((one ≡ c.loop-epoch.epoch) × IsKept s c.loop-epoch.epoch)) c.loop-epoch.invariant.rest
    (c.call.ensures.only one has)) in
    search (rules, only)
