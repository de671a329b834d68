use Rattle.std.proofs.Common.{List, ℕ, arith, get_or, refl, subst, take_all}
use Rattle.std.specs.List.{AllByRecursion}
use Rattle.gateway.proofs.Reaching.{IsReached, greatest_of, reached_more}
use Rattle.gateway.proofs.heads.common_head.Goals as goal

pub loop-head-preserved : goal.loop-head-preserved
loop-head-preserved c = (
  c.raised-common.ensures.reached c.loop-head.invariant.0,
  reached_more c.args.t c.args.heads.now c.loop-head.common c.raised-common.result c.loop-head.head-index (get_or c.args.heads.now c.loop-head.head-index 0)
      refl c.loop-head-test.true c.raised-common.ensures.above c.raised-common.ensures.least c.loop-head.invariant.1,
)

pub returns : goal.returns
returns c = record {
  reached = c.loop-head.invariant.0;
  greatest = greatest_of c.args.t c.args.heads.now c.loop-head.common (
      subst (λ (heads : List ℕ). AllByRecursion (IsReached c.args.t c.args.heads.now c.loop-head.common) heads)
      (take_all c.loop-head.head-index c.args.heads.now (omega (arith, c.loop-head-test.false))) c.loop-head.invariant.1
      );
}
