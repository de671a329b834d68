use Rattle.std.proofs.Common.{◌≡◌, ◌++◌, drop, map}
use Rattle.chances.specs.Tables.{said_of, value_at}
use Rattle.chances.proofs.table.Table.said.Given as goal

-- the values so far, and those of the members that are left, are all
abbrev pub invariant-loop-said : goal.invariant-loop-said
invariant-loop-said l =
    l.values.items ++ map (value_at l.step.0) (drop l.said-index l.self.initials.items) ≡ said_of l.self l.step.0
