-- Laws of a premise of a file.
use Rattle.std.specs.Prelude.{◌≡◌, ◌≢◌, ◌+◌, ◌≤◌, ℕ, List, [], ◌∷◌, ◌++◌, length, take, drop}
use Rattle.disk.specs.Supposed.{FileModel, Reply, IsFaithful, state_after}
use Rattle.disk.specs.Supposed.Reply.{Told, Gave, Wrote, Synced}

-- the next call, whichever it is, has an answer that is the file's
pub record HasAnswers (file : FileModel) (before : List Reply) : Type 0 where
  pub length_told : IsFaithful file (Told (length (state_after file before).seen) ∷ before)
  pub read_given : (at n : ℕ) → at + n ≤ length (state_after file before).seen
      → (bytes : List ℕ) × (length bytes ≡ n) × IsFaithful file (Gave at bytes ∷ before)
  pub written : (at : ℕ) (bytes : List ℕ) → IsFaithful file (Wrote at bytes ∷ before)
  pub synced : IsFaithful file (Synced ∷ before)

-- each premise may hold: it does before the first call, and while it does, the next call can leave it so
abbrev pub MayBeSo : Type 0
MayBeSo =
    (file : FileModel) → IsFaithful file [] × ((before : List Reply) → IsFaithful file before → HasAnswers file before)

-- a length that isn't the file's, or a read that gives other bytes, ends it for good
abbrev pub IsLostByFalse : Type 0
IsLostByFalse =
    (file : FileModel) (later before : List Reply)
    → ((n : ℕ) → n ≢ length (state_after file before).seen → IsFaithful file (later ++ Told n ∷ before) → ⊥)
    × ((at : ℕ) (bytes : List ℕ) → bytes ≢ take (length bytes) (drop at (state_after file before).seen)
    → IsFaithful file (later ++ Gave at bytes ∷ before) → ⊥)
