use Rattle.std.proofs.Common.{ℕ, ◌≡◌, ◌<◌, Some, slice_get}
use Rattle.questions.specs.declared.Core.{Core}
use Rattle.chances.specs.Cores.{HasDecided}
use Rattle.chances.specs.Tables.{cores_of}
use Rattle.chances.proofs.table.Table.is_decided.Given as goal

-- the cores so far have decided
abbrev pub invariant-loop-core : goal.invariant-loop-core
invariant-loop-core l =
    (member : ℕ) (core : Core) → member < l.core-index → slice_get (cores_of l.self) member ≡ Some core → HasDecided core
