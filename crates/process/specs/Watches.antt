-- A file that is watched.
use Rattle.std.specs.Prelude.{ℕ, ◌≡◌, List, Option, None}
use Rattle.process.specs.declared.replaced.Identity.{Identity}
use Rattle.process.specs.declared.replaced.Watched.{Watched}

-- the two are one file: it has one number on one device
abbrev pub IsSameFile : Identity → Identity → Type 0
IsSameFile one other = (one.device ≡ other.device) × (one.number ≡ other.number)

-- the path at which the file was opened
unfoldable pub watched_path : Watched → List ℕ
watched_path watched = watched.path.now

-- the system didn't say which file was opened
unfoldable pub IsUnknown : Watched → Type 0
IsUnknown watched = watched.opened ≡ None
