-- How far the four calls of a commit have come: what a crash until now has left, and what one may leave now.
use Rattle.std.proofs.Common.{◌≡◌, ◌⊎◌, ℕ, ◌+◌, List, [], ◌∷◌, length, take, Result, OnOk, OnErr, subst}
use Rattle.disk.specs.Model.{State, MayLeave, LeavesOnly, FailedWrite, Elapses, after_write, at_rest, overwritten}
use Rattle.disk.specs.declared.device.Disk.{Ghosts as DiskGhosts}
use Rattle.disk.proofs.Moments.{started, goes_on}
use Rattle.disk.proofs.Outcomes.{widen, pending, narrow}
use Rattle.journal.specs.Commit.{IsShut, IsCommit}
use Rattle.journal.proofs.Crash.{stage, open_gate}

module _ {D : Type 0} (disk : DiskGhosts D) (old : D) (gate : ℕ) (body : List ℕ) (shut : IsShut gate (disk.state old)) where
  abbrev file : List ℕ
  file = (disk.state old).seen

  -- the gate is closed, or the bytes stand behind it
  abbrev Leaves : List ℕ → Type 0
  Leaves f = IsCommit (take gate file) body f

  -- the calls so far, the last of which left this disk
  abbrev pub Commits : D → Type 0
  Commits new = LeavesOnly disk.moment disk.since old new Leaves × ((f : List ℕ) → MayLeave (disk.state new) f → Leaves f)

  -- what a crash leaves of a disk, or left of the one before it
  abbrev Passes : {T E : Type 0} → D → D → Result T E → Type 0
  Passes mid new result =
      Elapses (disk.moment mid) (disk.moment new) (disk.since mid) (disk.since new) (disk.state mid) (disk.state new) result

  -- a write of these bytes at a place either succeeded or failed
  abbrev Writes : {T E : Type 0} → ℕ → List ℕ → D → D → Result T E → Type 0
  Writes at bytes mid new result =
      OnOk result (disk.state new ≡ after_write (disk.state mid) at bytes)
      × OnErr result ((disk.moment new ≡ disk.moment mid) ⊎ FailedWrite at (length bytes) (disk.state mid) (disk.state new))
      × Passes mid new result

  staging : (f : List ℕ) → MayLeave (after_write (disk.state old) (gate + 1) body) f → Leaves f
  staging f may =
      stage file gate body shut.within shut.closed f
      (subst (λ (s : State). MayLeave (after_write s (gate + 1) body) f) shut.on_disk may)

  -- the write of the bytes
  pub written : {T E : Type 0} (new : D) (result : Result T E)
      → ((f : List ℕ) → disk.since old (disk.moment old) f → MayLeave (disk.state old) f)
      → Writes (gate + 1) body old new result → Commits new
  written new result only w =
      let here : (f : List ℕ) → MayLeave (disk.state new) f → Leaves f = λ f may.
      staging f (pending (disk.state old) (disk.state new) (gate + 1) body result w.0 w.1 w.2 f may) in
      let begun = started disk.moment disk.since disk.state old Leaves (λ f left. staging f (widen (disk.state old) (gate + 1) body f (only f left))) in
      (goes_on disk.moment disk.since disk.state old old new Leaves result begun w.2 here, here)

  -- a sync
  pub synced : {T E : Type 0} (mid new : D) (result : Result T E) → Commits mid
      → OnOk result (disk.state new ≡ at_rest (disk.state mid).seen) → OnErr result (disk.state new ≡ disk.state mid)
      → MayLeave (disk.state mid) (disk.state mid).seen → Passes mid new result → Commits new
  synced mid new result so_far done failed seen time =
      let here : (f : List ℕ) → MayLeave (disk.state new) f → Leaves f = λ f may.
      so_far.1 f (narrow (disk.state mid) (disk.state new) result done failed seen f may) in
      (goes_on disk.moment disk.since disk.state old mid new Leaves result so_far.0 time here, here)

  -- the write over the gate
  pub opened : {T E : Type 0} (mid new : D) (result : Result T E) → Commits mid
      → disk.state mid ≡ at_rest (overwritten file (gate + 1) body) → Writes gate (1 ∷ []) mid new result → Commits new
  opened mid new result so_far is w =
      let here : (f : List ℕ) → MayLeave (disk.state new) f → Leaves f = λ f may.
      open_gate file gate body shut.within shut.closed f
      (subst (λ (s : State). MayLeave (after_write s gate (1 ∷ [])) f) is
      (pending (disk.state mid) (disk.state new) gate (1 ∷ []) result w.0 w.1 w.2 f may)) in
      (goes_on disk.moment disk.since disk.state old mid new Leaves result so_far.0 w.2 here, here)
