use Rattle.std.proofs.Common.{◌≡◌, drop}
use Rattle.std.specs.List.{flat_map}
use Rattle.script.specs.Making.{adds, row, round}
use Rattle.script.proofs.making.Making.add_round.Given as goal

-- the rows that are left lead to where all would have led
abbrev pub invariant-loop-from : goal.invariant-loop-from
invariant-loop-from l = adds (flat_map (λ from. row from l.members) (drop l.from-index l.members)) l.self ≡ adds (round l.members) l.fn.self
