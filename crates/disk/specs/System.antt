-- What the system's calls on an open file did so far.
use Rattle.std.specs.Prelude.{ℕ, ◌≡◌, ◌+◌, List, [], ◌∷◌, ◌++◌}

-- each of these bytes with its place, the first at this one
abbrev pub placed : ℕ → List ℕ → List (ℕ × ℕ)
placed at [] = []
placed at (b ∷ bytes) = (at, b) ∷ placed (at + 1) bytes

-- the lengths that it told, the bytes that it read and wrote, each with its place, and how many syncs succeeded
pub record Done : Type 0 where
  pub lengths : List ℕ
  pub read : List (ℕ × ℕ)
  pub written : List (ℕ × ℕ)
  pub syncs : ℕ

abbrev pub nothing_done : Done
nothing_done = record { lengths = []; read = []; written = []; syncs = 0 }

-- it told this length
abbrev pub with_told : Done → ℕ → Done
with_told done n = record done { lengths = done.lengths ++ n ∷ [] }

-- it read these bytes from a place on
abbrev pub with_read : Done → ℕ → List ℕ → Done
with_read done at bytes = record done { read = done.read ++ placed at bytes }

-- it wrote these bytes from a place on
abbrev pub with_written : Done → ℕ → List ℕ → Done
with_written done at bytes = record done { written = done.written ++ placed at bytes }

-- it put the file on the disk
abbrev pub with_synced : Done → Done
with_synced done = record done { syncs = done.syncs + 1 }

-- a beginning of these bytes was written from a place on
pub record WroteSome (old new : Done) (at : ℕ) (bytes : List ℕ) : Type 0 where
  pub part : List ℕ
  pub rest : List ℕ
  pub whole : bytes ≡ part ++ rest
  pub now : new ≡ with_written old at part
