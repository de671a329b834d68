use Rattle.std.proofs.Common.{ℕ, ◌≡◌, inl, inr, rules, subst, sym, ap}
use Rattle.std.specs.List.{Contains}
use Rattle.std.specs.Global.{Vec}
use Rattle.epochs.specs.declared.state.State.{State}
use Rattle.epochs.specs.Parking.{WaitOn}
use Rattle.epochs.specs.declared.state.Parked.{Parked}
use Rattle.epochs.proofs.WaitingOn.{one_after_another}
use Rattle.epochs.proofs.state.State.suspend.Goals as goal

pub loop-ended-preserved : goal.loop-ended-preserved
loop-ended-preserved g c =
    let same : c.take_out.new.self.undone ≡ c.loop-ended.self.undone = ap (λ (s : State). s.undone) c.take_out.ensures.rest in
    record {
      others = search rules;
      waiting = one_after_another c.args.epoch c.args.self.now.parked.items c.loop-ended.self.parked.items c.park_all.new.self.parked.items
          c.loop-ended.invariant.waiting (subst (λ (v : Vec Parked). WaitOn c.args.epoch v.items c.park_all.new.self.parked.items) (ap (λ (s : State). s.parked) c.take_out.ensures.rest) c.park_all.ensures.waiting);
      undone = λ one has. c.park_all.ensures.undone one (subst (λ (u : Vec ℕ). Contains u.items one) (sym same) (c.loop-ended.invariant.undone one has));
      only = λ one has. elim (c.park_all.ensures.only one has) [
        | inl stood ↦ c.loop-ended.invariant.only one (subst (λ (u : Vec ℕ). Contains u.items one) same stood)
        | inr here ↦ inr here
      ];
      rest = search rules;
    }

pub returns-clause-undone : goal.returns-clause-undone
returns-clause-undone g c =
    λ one has. subst (λ (s : State). Contains s.undone.items one) (sym c.take_out.ensures.rest) (c.loop-ended.invariant.undone one has)

pub returns-clause-only : goal.returns-clause-only
returns-clause-only g c =
    λ one has. c.loop-ended.invariant.only one (subst (λ (s : State). Contains s.undone.items one) c.take_out.ensures.rest has)
