use Rattle.std.proofs.Common.{◌≡◌, ◌-◌, ◌∙◌, ap, sym, arith, rules, length}
use Rattle.script.specs.Making.{Made, adds, times, round}
use Rattle.script.proofs.Counting.{no_rounds, round_first}
use Rattle.script.proofs.making.Making.order_round.Goals as goal

pub returns-then-is_empty-clause-ok : goal.returns-then-is_empty-clause-ok
returns-then-is_empty-clause-ok c size =
    let none : length c.args.members.now ≡ 0 = search (rules, c.if-is_empty.ensures) in
    sym (no_rounds c.args.count c.args.members.now c.args.self.now none)

pub returns-clause-ok : goal.returns-clause-ok
returns-clause-ok c size =
    ap (λ (m : Made). adds (times (c.args.count - 1) (round c.args.members.now)) m) c.in_ok-add_round.ensures.ok
    ∙ round_first c.args.count (round c.args.members.now) c.args.self.now (omega (arith, c.if-count-eq0.false))
