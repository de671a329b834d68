-- What stands after the old file was read, or wasn't.
use Rattle.std.specs.Prelude.{◌≡◌, ◌<◌, ◌≤◌}
use Rattle.terms_prelude.specs.Terms.{Header}
use Rattle.disk.specs.Model.{MayLeave, LeavesOnly}
use Rattle.disk.specs.declared.device.Disk.{Ghosts as DiskGhosts}
use Rattle.migration.specs.declared.fault.MigrateFault.{MigrateFault}
use Rattle.migration.specs.declared.fault.MigrateFault.TheVariants.{OldDevice}
use Rattle.migration.specs.Faults.{IsFaultOfReading}
use Rattle.migration.specs.Old.{RefusesOld, IsOfOldFile}

-- However reading the old file ended, no byte of it was changed, and a crash at any moment left nothing but what it might
-- have left before.
pub record IsUntouched {D : Type 0} (disk : DiskGhosts D) (before after : D) : Type 0 where
  pub same : disk.keeps after → (disk.state after).seen ≡ (disk.state before).seen
  pub any_moment : disk.keeps after → LeavesOnly disk.moment disk.since before after (MayLeave (disk.state before))
  pub later : disk.failures before ≤ disk.failures after
  pub kept : disk.keeps after → disk.keeps before

-- It wasn't read: the fault is the one that the file has, or another cause.
pub record HandsOldBack {D : Type 0} (disk : DiskGhosts D) (before : D) (header : Header) (fault : MigrateFault) (after : D) : Type 0 where
  pub only : IsFaultOfReading fault
  pub refused : disk.keeps after → IsOfOldFile fault → RefusesOld header fault (disk.state before).seen
  pub device : fault ≡ OldDevice → disk.failures before < disk.failures after
  pub untouched : IsUntouched disk before after
