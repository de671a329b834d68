use Rattle.std.proofs.Common.{◌<◌, ◌+◌, ◌-◌, sym, ap, ◌∙◌, arith}
use Rattle.script.specs.Words.{Network, Made, fairs}
use Rattle.script.proofs.Counting.{fairs-next}
use Rattle.script.proofs.making.Making.add_fairs.Goals as goal

pub loop-number-preserved : goal.loop-number-preserved
loop-number-preserved c =
    let i = c.loop-number.number in
    let cast = c.args.members.now in
    let within : i < c.args.left = omega (arith, c.loop-number-test.true) in
    ap (λ (p : Network × Made). fairs cast (c.args.left - (i + 1)) p.0 p.1) c.in_ok-add_fair.ensures.ok
    ∙ (sym (fairs-next cast c.args.left i c.loop-number.fair c.loop-number.self within) ∙ c.loop-number.invariant)
