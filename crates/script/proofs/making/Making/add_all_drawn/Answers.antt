use Rattle.std.proofs.Common.{◌+◌, ◌-◌, sym, ap, ◌∙◌}
use Rattle.script.specs.Making.{Made, draws}
use Rattle.script.proofs.Counting.{draws-next}
use Rattle.script.proofs.making.Making.add_all_drawn.Goals as goal

pub loop-number-preserved : goal.loop-number-preserved
loop-number-preserved c =
    let i = c.loop-number.number in
    ap (λ (m : Made). draws c.args.size (c.args.count - (i + 1)) m) c.in_ok-add_drawn.ensures.ok
    ∙ (sym (draws-next c.args.size c.args.count i c.loop-number.self c.loop-number-test.true) ∙ c.loop-number.invariant)
