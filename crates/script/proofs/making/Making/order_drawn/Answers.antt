use Rattle.std.proofs.Common.{◌≤◌, ◌-◌, ◌∙◌, ap, arith}
use Rattle.script.specs.Making.{Made, draws}
use Rattle.script.proofs.Counting.{draws_split}
use Rattle.script.proofs.making.Making.order_drawn.Goals as goal

pub returns-clause-ok : goal.returns-clause-ok
returns-clause-ok c correct =
    let few : c.min-now.result ≤ c.args.count = omega arith in
    ap (λ (m : Made). draws c.args.size (c.args.count - c.min-now.result) m) c.in_ok-add_all_drawn.ensures.ok
    ∙ draws_split c.args.size c.args.count c.min-now.result c.args.self.now few
