use Rattle.std.proofs.Common.{List, take, subst, sym}
use Rattle.questions.proofs.Knowing.{take_more}
use Rattle.terms_prelude.specs.Terms.{Record}
use Rattle.node.specs.Words.{IsOrdered}
use Rattle.node.proofs.order.Order.of.Goals as goal

pub loop-one-preserved : goal.loop-one-preserved
loop-one-preserved c =
    subst (λ (l : List Record). IsOrdered c.args.questions l c.add_record.new.self)
    (sym (take_more c.args.records.now c.loop-one.one-index c.one-item.result c.loop-one-test.true c.one-item.is))
    (c.add_record.ensures c.args.questions (take c.loop-one.one-index c.args.records.now) c.loop-one.invariant)
