-- How the fuse of a disk in memory burns. None is no fuse, and a number is how many calls it still lets pass.
use Rattle.std.specs.Prelude.{◌≡◌, ◌↔◌, ℕ, zero, suc, ◌+◌, ◌-◌, Option, None, Some, Bool, true, false, Result, IsOk, IsErr, IsTrue, OnOk, OnErr}

-- whether the next call passes
abbrev pub lets_pass : Option ℕ → Bool
lets_pass None = true
lets_pass (Some zero) = false
lets_pass (Some (suc calls)) = true

-- what a call leaves of the fuse
abbrev pub burnt : Option ℕ → Option ℕ
burnt None = None
burnt (Some calls) = Some (calls - 1)

-- what so many calls leave of it
abbrev pub burnt_by : ℕ → Option ℕ → Option ℕ
burnt_by zero fuse = fuse
burnt_by (suc calls) fuse = burnt_by calls (burnt fuse)

-- A call that is listed, and so is one moment more, passes exactly where the fuse lets it, and takes one from the fuse.
-- One for which there was no memory is no moment: it fails, and the fuse stays as it was.
pub record Burns {T E : Type 0} (before now : ℕ) (old new : Option ℕ) (result : Result T E) : Type 0 where
  pub listed : now ≡ before + 1 → (IsOk result ↔ IsTrue (lets_pass old)) × (new ≡ burnt old)
  pub refused : now ≡ before → IsErr result × (new ≡ old)

-- each fault is one failure more, and nothing else is one
pub record CountsFault {T E : Type 0} (before now : ℕ) (result : Result T E) : Type 0 where
  pub passed : OnOk result (now ≡ before)
  pub failed : OnErr result (now ≡ before + 1)
