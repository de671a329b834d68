use Rattle.std.proofs.Common.{◌<◌, inl, inr, rules}
use Rattle.epochs.proofs.state.State.call_before.Goals as goal

pub returns-clause-only : goal.returns-clause-only
returns-clause-only c =
    let before : c.args.made < c.args.epoch = search rules in
    λ one has. elim (c.call.ensures.only one has) [ inl stood ↦ inl stood | inr new ↦ inr (new.0, before) ]
