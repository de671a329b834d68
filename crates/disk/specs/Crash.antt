-- The files that a disk in memory can be left with by a crash.
use Rattle.std.specs.Prelude.{ℕ, ◌||◌, List, [], ◌∷◌, length, nat_le, ◌+◌, if◌then◌else◌}
use Rattle.disk.specs.Model.{State, is_touched}
use Rattle.disk.specs.declared.crash.Pick.{Pick}
use Rattle.disk.specs.declared.crash.Pick.TheVariants.{Kept, Lost, Fill}

-- from place k on: one byte past this length, and in each of these ranges
abbrev pub filled_from : ℕ → List (ℕ × ℕ) → ℕ → ℕ → List ℕ → List ℕ
filled_from synced written byte k [] = []
filled_from synced written byte k (b ∷ bytes) = (if nat_le synced k || is_touched k written then byte else b) ∷ filled_from synced written byte (k + 1) bytes

-- what is left
abbrev pub left : State → Pick → List ℕ
left s Kept = s.seen
left s Lost = s.synced
left s (Fill byte) = filled_from (length s.synced) s.written byte 0 s.seen
