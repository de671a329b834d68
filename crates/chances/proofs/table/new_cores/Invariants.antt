use Rattle.std.proofs.Common.{ℕ, ◌≡◌, ◌<◌, IsSomeAnd, length, slice_get}
use Rattle.chances.specs.Cores.{IsNewCore}
use Rattle.chances.proofs.table.new_cores.Given as goal

-- the cores of the members so far
abbrev pub invariant-loop-me : goal.invariant-loop-me
invariant-loop-me l =
    (length l.cores.items ≡ l.me)
    × ((member : ℕ) → member < l.me → IsSomeAnd (slice_get l.cores.items member) (IsNewCore l.size member))
