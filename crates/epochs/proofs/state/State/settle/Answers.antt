use Rattle.std.proofs.Common.{◌≡◌, ◌∙◌, ◌&&◌, Bool, false, not, sym, ap, subst, Result, Ok, Err, OnOk, arith}
use Rattle.std.specs.List.{Contains}
use Rattle.std.proofs.lemmas.Result.{on_ok_weaker}
use Rattle.epochs.specs.declared.state.State.{State}
use Rattle.epochs.proofs.Undone.{among, kept_alike, left_out_alike}
use Rattle.epochs.proofs.state.State.settle.Goals.{then-not-report, else-not-report}
use Rattle.epochs.proofs.state.State.settle.Goals as goal

pub returns-clause-undone : goal.returns-clause-undone
returns-clause-undone c =
    λ other differs has. c.set_done.ensures.others other differs
    (c.begin_if-begun.ensures.undone other (subst (λ (s : State). Contains s.undone.items other) (sym c.change.ensures.rest) has))

pub returns-in_err-set_done-clause-only : goal.returns-in_err-set_done-clause-only
returns-in_err-set_done-clause-only c = λ one has.
    among c.args.self.now _ c.args.epoch one (ap (λ (s : State). s.newest) c.change.ensures.rest)
    (ap (λ (s : State). s.verdicts) c.change.ensures.rest) (ap (λ (s : State). s.undone) c.change.ensures.rest)
    (c.begin_if-begun.ensures.only one) (c.set_done.ensures.only one has)

pub returns-clause-only : goal.returns-clause-only
returns-clause-only c = λ one has.
    among c.args.self.now _ c.args.epoch one (ap (λ (s : State). s.newest) c.change.ensures.rest)
    (ap (λ (s : State). s.verdicts) c.change.ensures.rest) (ap (λ (s : State). s.undone) c.change.ensures.rest)
    (c.begin_if-begun.ensures.only one) (c.set_done.ensures.only one has)

pub returns-clause-wanted : goal.returns-clause-wanted
returns-clause-wanted c = at_ok c.begin_if-begun.result (λ is kept.
    let open_still : c.if-not-report.set_done ≡ false = elim c.if-not-report.branch [
      | then-not-report w ↦ w.set_done-is ∙ sym (ap (λ (b : Bool). not b && c.args.is_quiet) w.if-not-report.true) ∙ is
      | else-not-report w ↦ w.set_done-is ∙ ap not w.if-not-report.false
    ] in
    c.in_ok-set_done.ensures.wanted open_still (kept_alike c.begin_if-begun.new.self c.args.self.now c.args.epoch
    (sym (ap (λ (s : State). s.verdicts) c.begin_if-begun.ensures.rest ∙ ap (λ (s : State). s.verdicts) c.change.ensures.rest)) kept))
  where
    at_ok : {X E P : Type 0} (r : Result X E) → P → OnOk r P
    at_ok (Ok x) holds = holds
    at_ok (Err e) holds = tt

pub returns-clause-left_out : goal.returns-clause-left_out
returns-clause-left_out c = on_ok_weaker c.begin_if-begun.result (λ all begun one left.
    c.set_done.ensures.others one (λ (same : one ≡ c.args.epoch). omega (arith, left.before, same))
    (all begun one (left_out_alike _ c.args.self.now c.args.epoch one (sym (ap (λ (s : State). s.newest) c.change.ensures.rest))
    (sym (ap (λ (s : State). s.verdicts) c.change.ensures.rest)) left))) c.begin_if-begun.ensures.left_out
