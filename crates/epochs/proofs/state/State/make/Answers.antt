use Rattle.std.proofs.Common.{◌≡◌, ◌≤◌, ◌+◌, [], ◌∷◌, ◌++◌, length, refl, arith, rules}
use Rattle.chain.specs.Slots.{chain_size}
use Rattle.epochs.specs.Verdicts.{IsUntouched}
use Rattle.epochs.proofs.Made.{first_stay, more_alike}
use Rattle.epochs.proofs.Undone.{made_no_more, made_one_more, made_rest, only_missed}
use Rattle.epochs.proofs.state.State.make.Goals as goal

pub returns-in_err-call_before-clause-only : goal.returns-in_err-call_before-clause-only
returns-in_err-call_before-clause-only c = λ one. only_missed c.args.self.now c.args.self.now.undone.items c.args.epoch c.loop-made.made one
    c.loop-made.invariant.least (c.loop-made.invariant.only one) (c.call_before.ensures.only one)

pub returns-in_err-none-clause-only : goal.returns-in_err-none-clause-only
returns-in_err-none-clause-only c = λ one. only_missed c.args.self.now c.args.self.now.undone.items c.args.epoch c.loop-made.made one
    c.loop-made.invariant.least (c.loop-made.invariant.only one) (c.call_before.ensures.only one)

pub returns-in_err-push-clause-only : goal.returns-in_err-push-clause-only
returns-in_err-push-clause-only c = λ one. only_missed c.args.self.now c.args.self.now.undone.items c.args.epoch c.loop-made.made one
    c.loop-made.invariant.least (c.loop-made.invariant.only one) (c.call_before.ensures.only one)

pub returns-in_err-push-clause-left_out : goal.returns-in_err-push-clause-left_out
returns-in_err-push-clause-left_out c =
    made_no_more c.args.self.now c.loop-made.self c.call_before.new.self (record c.call_before.new.self { verdicts = c.push.new.self }) c.args.epoch
    (search rules) refl c.loop-made.invariant.left_out c.call_before.ensures.undone

pub loop-made-preserved : goal.loop-made-preserved
loop-made-preserved c =
    let inv = c.loop-made.invariant in
    let old = c.args.self.now.verdicts.items in
    let before = c.loop-made.self.verdicts.items in
    let within : length old ≤ length before = omega (arith, inv.least, inv.count) in
    let longer : c.push.new.self.items ≡ before ++ c.in_ok-none.none ∷ [] = search rules in
    let count : length c.push.new.self.items ≡ c.loop-made.made + 1 = search rules in
    let left_out = made_one_more c.args.self.now c.loop-made.self c.call_before.new.self (record c.call_before.new.self { verdicts = c.push.new.self }) c.args.epoch c.loop-made.made
    inv.count (search rules) count refl inv.left_out c.in_ok-call_before.ensures.undone c.in_ok-call_before.ensures.called in
    record {
      count = count;
      most = search rules;
      left_out = left_out;
      undone = λ one has. c.in_ok-call_before.ensures.undone one (inv.undone one has);
      only = λ one. only_missed c.args.self.now c.args.self.now.undone.items c.args.epoch c.loop-made.made one
          inv.least (inv.only one) (c.in_ok-call_before.ensures.only one);
      least = omega (arith, inv.least);
      known = first_stay old before c.push.new.self.items c.in_ok-none.none within inv.known longer;
      fresh = more_alike (IsUntouched (chain_size c.args.chain.now).questions) old before c.push.new.self.items c.in_ok-none.none within inv.fresh (search rules) longer;
      rest = made_rest c.args.self.now c.loop-made.self c.call_before.new.self c.push.new.self inv.rest c.in_ok-call_before.ensures.rest;
    }
