use Rattle.std.proofs.Common.{rules, tests}
use Rattle.std.proofs.lemmas.Fn.{filter_same}
use Rattle.epochs.specs.Parking.{is_patient}
use Rattle.epochs.specs.declared.state.Parked.{Parked}
use Rattle.epochs.proofs.state.State.close_late.Goals as goal

pub returns-clause-patient : goal.returns-clause-patient
returns-clause-patient c =
    filter_same _ (λ (one : Parked). is_patient c.args.self.now.asks.second one) _ (λ x b f' k. search (rules, tests)) _ _ c.retain.ensures.filtered
