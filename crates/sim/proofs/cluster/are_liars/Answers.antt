use Rattle.std.proofs.Common.{◌<◌, get_or, arith, rules}
use Rattle.sim.proofs.Rising.{head_rises, rises_on}
use Rattle.sim.proofs.cluster.are_liars.Goals.{then-liar-least-via-then-liar-least, then-liar-least-via-else-liar-least+then-liar-n}
use Rattle.sim.proofs.cluster.are_liars.Goals as goal

pub loop-liar-preserved : goal.loop-liar-preserved
loop-liar-preserved c =
    let below : get_or c.args.liars.now c.loop-liar.liar-index 0 < c.args.size.n = omega (arith, c.if-liar-n.false, c.n.ensures.value) in
    record {
      then = λ all. (head_rises c.loop-liar.least c.args.size.n c.loop-liar.liar-index c.args.liars.now c.loop-liar-test.true (c.loop-liar.invariant.then all)).2;
      back = λ rest. c.loop-liar.invariant.back
          (rises_on c.loop-liar.least c.args.size.n c.loop-liar.liar-index c.args.liars.now c.loop-liar-test.true c.if-liar-least.false below rest);
    }

pub returns-then-liar-least : goal.returns-then-liar-least
returns-then-liar-least c = (
  λ yes. absurd (search (rules, yes)),
  λ are.
      let head = head_rises c.loop-liar.least c.args.size.n c.loop-liar.liar-index c.args.liars.now c.loop-liar-test.true (c.loop-liar.invariant.then are.0) in
      elim c.then-liar-least.branch [
        | then-liar-least-via-then-liar-least w ↦ absurd (omega (arith, w.if-liar-least.true, head.0))
        | then-liar-least-via-else-liar-least+then-liar-n w ↦ absurd (omega (arith, w.if-liar-n.true, w.n.ensures.value, head.1))
      ],
)
