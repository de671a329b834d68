use Rattle.std.proofs.Common.{ℕ, ◌<◌, length}
use Rattle.chances.specs.Tables.{initials_of}
use Rattle.chances.proofs.table.Table.is_said.Given as goal

-- the members so far said it
abbrev pub invariant-loop-said : goal.invariant-loop-said
invariant-loop-said l = (member : ℕ) → member < l.said-index → l.step.0 < length (initials_of l.self member)
