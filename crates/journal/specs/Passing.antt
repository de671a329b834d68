-- The states through which a disk passed, call by call.
use Rattle.std.specs.Prelude.{◌≡◌, ◌⊎◌, ℕ, ◌+◌, ◌≤◌, List, [], ◌∷◌, length, drop}
use Rattle.disk.specs.Model.{State, MayLeave}
use Rattle.disk.specs.declared.device.Disk.{Ghosts as DiskGhosts}

-- a crash may leave the file in one of these states
abbrev pub OneLeaves : List State → List ℕ → Type 0
OneLeaves [] file = ⊥
OneLeaves (s ∷ states) file = MayLeave s file ⊎ OneLeaves states file

-- the last of these states, and without any this one
abbrev pub last_of : State → List State → State
last_of s [] = s
last_of s (next ∷ states) = last_of next states

-- By as many calls the disk came into each of these states, in this order: a crash from the k-th call on leaves what one
-- of the states from that call on lets, and each such file.
pub record PassesThrough {D : Type 0} (disk : DiskGhosts D) (old : D) (states : List State) (new : D) : Type 0 where
  pub calls : disk.moment new ≡ disk.moment old + length states
  pub last : disk.state new ≡ last_of (disk.state old) states
  pub only : (k : ℕ) (file : List ℕ) → k ≤ length states → disk.since new (disk.moment old + k) file → OneLeaves (drop k (disk.state old ∷ states)) file
  pub each : (k : ℕ) (file : List ℕ) → k ≤ length states → OneLeaves (drop k (disk.state old ∷ states)) file → disk.since new (disk.moment old + k) file
