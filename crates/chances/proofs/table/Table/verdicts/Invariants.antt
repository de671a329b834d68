use Rattle.std.proofs.Common.{ℕ, ◌≡◌, Bool, Option, Some, length, slice_get}
use Rattle.questions.specs.declared.Core.{Core}
use Rattle.chances.specs.Cores.{IsVerdict}
use Rattle.chances.specs.Tables.{cores_of}
use Rattle.chances.proofs.table.Table.verdicts.Given as goal

-- the verdicts of the cores so far
abbrev pub invariant-loop-core : goal.invariant-loop-core
invariant-loop-core l =
    (length l.verdicts.items ≡ l.core-index)
    × ((member : ℕ) (core : Core) (verdict : Option (ℕ × Bool)) → slice_get (cores_of l.self) member ≡ Some core
    → slice_get l.verdicts.items member ≡ Some verdict → IsVerdict core verdict)
