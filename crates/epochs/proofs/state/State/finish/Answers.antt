use Rattle.std.proofs.Common.{ℕ, ◌==◌, not, rules, tests}
use Rattle.std.proofs.lemmas.Fn.{filter_same}
use Rattle.epochs.proofs.state.State.finish.Goals as goal

pub returns-clause-gone : goal.returns-clause-gone
returns-clause-gone c = filter_same _ (λ (one : ℕ). not (one == c.args.epoch)) _ (λ x b f' k. search (rules, tests)) _ _ c.retain.ensures.filtered
