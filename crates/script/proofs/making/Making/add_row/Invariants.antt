use Rattle.std.proofs.Common.{◌≡◌, drop}
use Rattle.script.specs.Making.{adds, row}
use Rattle.script.proofs.making.Making.add_row.Given as goal

-- those that are left lead to where all would have led
abbrev pub invariant-loop-to : goal.invariant-loop-to
invariant-loop-to l = adds (row l.from (drop l.to-index l.members)) l.self ≡ adds (row l.from l.members) l.fn.self
