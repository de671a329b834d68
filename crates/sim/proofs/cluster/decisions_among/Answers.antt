use Rattle.std.proofs.Common.{ap, ◌∙◌}
use Rattle.sim.proofs.Verdicts.{decision_kept, statement_left_out}
use Rattle.sim.proofs.cluster.decisions_among.Goals.{in-Decided+in_ok-push-in-Decided, in-Said}
use Rattle.sim.proofs.cluster.decisions_among.Goals as goal

pub loop-item-preserved : goal.loop-item-preserved
loop-item-preserved c question =
    elim c.match-item.branch [
      | in-Decided+in_ok-push-in-Decided w ↦
          decision_kept c.loop-item.decisions.items c.match-item.decisions.items c.args.records.now c.loop-item.item-index c.item-item.result question _ c.loop-item-test.true c.item-item.is
          (ap (λ v. v.items) w.decisions-is ∙ w.in_ok-push-in-Decided.ensures.items) (c.loop-item.invariant question)
      | in-Said w ↦
          statement_left_out c.loop-item.decisions.items c.match-item.decisions.items c.args.records.now c.loop-item.item-index c.item-item.result _ question _ c.loop-item-test.true c.item-item.is
          w.in-Said.is (ap (λ v. v.items) w.decisions-is) (c.loop-item.invariant question)
    ]
