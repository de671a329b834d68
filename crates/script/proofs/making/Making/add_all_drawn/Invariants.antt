use Rattle.std.proofs.Common.{◌≡◌, ◌-◌}
use Rattle.script.specs.Making.{draws}
use Rattle.script.proofs.making.Making.add_all_drawn.Given as goal

-- the events that are left lead to where all would have led
abbrev pub invariant-loop-number : goal.invariant-loop-number
invariant-loop-number l = draws l.size (l.count - l.number) l.self ≡ draws l.size l.count l.fn.self
