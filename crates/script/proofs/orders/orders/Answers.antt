use Rattle.std.proofs.Common.{sym, subst, arith, List}
use Rattle.std.proofs.lemmas.Result.{err_from_is_err_and}
use Rattle.script.specs.declared.step.Order.{Order}
use Rattle.script.proofs.Leading.{reached_end}
use Rattle.script.proofs.Counted.{none_read, one_read, not_read, too_many, ReadSoFar}
use Rattle.script.proofs.orders.orders.Goals as goal

pub loop-line-init : goal.loop-line-init
loop-line-init c = record {
  few = omega arith;
  read = λ size start none.
      subst (λ (l : List Order). ReadSoFar size c.args.correct.now start c.args.lines.now 0 l 0) (sym c.new-orders.ensures.items)
      (none_read size c.args.correct.now start c.args.lines.now none);
}

pub loop-line-preserved : goal.loop-line-preserved
loop-line-preserved c = record {
  few = c.in_ok-count.ensures.ok.1;
  read = λ size start none.
      one_read size c.args.correct.now start c.args.lines.now c.loop-line.line-index _ c.loop-line.orders.items c.loop-line.count c.loop-line-test.true (c.loop-line.invariant.read size start none)
      c.in_ok-order.order c.push.new.self.items _ c.in_ok-order.ensures.ok c.in_ok-count.ensures.ok.0 c.in_ok-count.ensures.ok.1 c.in_ok-push.ensures.items;
}

pub returns-in_err-order-clause-err : goal.returns-in_err-order-clause-err
returns-in_err-order-clause-err c size start none =
    let p = err_from_is_err_and c.from_residual.result c.from_residual.ensures.1 in
    rw (p.1, p.2) (not_read size c.args.correct.now start c.args.lines.now c.loop-line.line-index _ c.loop-line.orders.items c.loop-line.count c.loop-line-test.true
    (c.loop-line.invariant.read size start none) c.in_err-order.field-0.0 c.in_err-order.ensures.err)

pub returns-in_err-count-clause-err : goal.returns-in_err-count-clause-err
returns-in_err-count-clause-err c size start none =
    let p = err_from_is_err_and c.from_residual-in_err-count.result c.from_residual-in_err-count.ensures.1 in
    rw (p.1, p.2) (too_many size c.args.correct.now start c.args.lines.now c.loop-line.line-index _ c.loop-line.orders.items c.loop-line.count c.loop-line-test.true
    (c.loop-line.invariant.read size start none) c.in_ok-order.order c.in_err-count.field-0.0 c.in_ok-order.ensures.ok c.in_err-count.ensures.err)

pub returns-clause-ok : goal.returns-clause-ok
returns-clause-ok c size start none =
    reached_end size c.args.correct.now start c.args.lines.now c.loop-line.line-index _ c.loop-line-test.false (c.loop-line.invariant.read size start none).reached

pub returns-clause-few : goal.returns-clause-few
returns-clause-few c size start none =
    let counted = (c.loop-line.invariant.read size start none).counted in
    let few = c.loop-line.invariant.few in
    omega (arith, counted, few)
