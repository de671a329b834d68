use Rattle.std.proofs.Common.{inl, inr, rules}
use Rattle.epochs.proofs.WaitingOn.{one_after_another}
use Rattle.epochs.proofs.state.State.park_all.Goals as goal

pub loop-client-preserved : goal.loop-client-preserved
loop-client-preserved c = record {
  waiting = one_after_another c.args.epoch c.args.self.now.parked.items c.loop-client.self.parked.items c.call_and_park.new.self.parked.items
      c.loop-client.invariant.waiting c.call_and_park.ensures.waiting;
  undone = λ one has. c.call_and_park.ensures.undone one (c.loop-client.invariant.undone one has);
  only = λ one has. elim (c.call_and_park.ensures.only one has) [
    | inl stood ↦ c.loop-client.invariant.only one stood
    | inr here ↦ inr here
  ];
  rest = search rules;
}
