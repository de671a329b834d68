use Rattle.std.proofs.Common.{◌≡◌, ◌==◌, None, rules}
use Rattle.epochs.specs.Opens.{MayRun}
use Rattle.epochs.specs.Reports.{running_in}
use Rattle.epochs.specs.declared.running.Running.{Running}
use Rattle.epochs.proofs.Noting.{none_passes}
use Rattle.epochs.proofs.state.State.place_of.Goals as goal

pub returns-then-is_to_run-clause-due : goal.returns-then-is_to_run-clause-due
returns-then-is_to_run-clause-due c =
    let may : MayRun c.args.chain.now c.args.self.now c.args.epoch = search rules in
    let none : running_in c.args.self.now.running.items c.args.epoch ≡ None = search rules in
    λ _. record { may = may; rests = none_passes (λ (one : Running). one.epoch == c.args.epoch) c.args.self.now.running.items none }
