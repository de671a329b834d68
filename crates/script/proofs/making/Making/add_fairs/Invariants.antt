use Rattle.std.proofs.Common.{◌≡◌, ◌-◌}
use Rattle.script.specs.Making.{fairs}
use Rattle.script.proofs.making.Making.add_fairs.Given as goal

-- the events that are left lead to where all would have led
abbrev pub invariant-loop-number : goal.invariant-loop-number
invariant-loop-number l = fairs l.members (l.left - l.number) l.fair l.self ≡ fairs l.members l.left l.fn.fair l.fn.self
