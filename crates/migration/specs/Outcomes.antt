-- What stands once a journal was brought over, or wasn't.
use Rattle.std.specs.Prelude.{ℕ, ◌≡◌, ◌⊎◌, ◌<◌, ◌≤◌, ◌^◌, List, length}
use Rattle.terms_prelude.specs.Terms.{Record, Header}
use Rattle.disk.specs.Model.{LeavesOnly}
use Rattle.disk.specs.declared.device.Disk.{Ghosts as DiskGhosts}
use Rattle.journal.specs.declared.journal.Journal.{Journal}
use Rattle.journal.specs.Drafts.{IsNoJournal}
use Rattle.journal.specs.File.{Holds}
use Rattle.journal.specs.Outcomes.{WasRead}
use Rattle.migration.specs.declared.fault.MigrateFault.{MigrateFault}
use Rattle.migration.specs.declared.fault.MigrateFault.TheVariants.{OldDevice, NewDevice, Full}
use Rattle.migration.specs.declared.staging.Staging.{Staging}
use Rattle.migration.specs.Faults.{IsFaultOfFinish}
use Rattle.migration.specs.Old.{HoldsOld, RefusesOld, IsOfOldFile}
use Rattle.migration.specs.OldOutcomes.{IsUntouched}
use Rattle.migration.specs.Staged.{staging_draft, staging_disk, staging_header, gate_after, HasFilled}

-- The new file is a journal of the records that the old file holds, as many as this. The old file was read, by three
-- calls, none of which changed a byte.
pub record HasCarried {D E : Type 0} (from : DiskGhosts D) (to : DiskGhosts E) (staging : Staging E) (before : D) (journal : Journal E) (count : ℕ) (after : D) : Type 0 where
  pub records : List Record
  pub held : from.keeps after → HoldsOld (staging_header staging) records (from.state before).seen
  pub count_is : count ≡ length records
  pub filled : HasFilled to (staging_draft staging) records journal
  pub read : WasRead from before after

-- These are the records that the old file holds, and this file holds exactly these.
pub record HoldsThose {D : Type 0} (from : DiskGhosts D) (header : Header) (before : D) (file : List ℕ) : Type 0 where
  pub records : List Record
  pub held : HoldsOld header records (from.state before).seen
  pub holds : Holds header records file

-- It wasn't brought over, for this fault, which has its cause. A crash at any moment left a new file that opening refuses,
-- by whichever header, or one that holds exactly the records of the old one. The old file is untouched.
pub record HasNotCarried {D E : Type 0} (from : DiskGhosts D) (to : DiskGhosts E) (staging : Staging E) (before : D) (fault : MigrateFault) (disk : E) (after : D) : Type 0 where
  pub only : IsFaultOfFinish fault
  pub any_moment : from.keeps after → to.keeps disk
      → LeavesOnly to.moment to.since (staging_disk staging) disk (λ file. IsNoJournal file ⊎ HoldsThose from (staging_header staging) before file)
  pub refused : from.keeps after → IsOfOldFile fault → RefusesOld (staging_header staging) fault (from.state before).seen
  pub full : from.keeps after → fault ≡ Full
      → (records : List Record) × HoldsOld (staging_header staging) records (from.state before).seen × (2 ^ 31 < gate_after (staging_draft staging) records)
  pub old_device : fault ≡ OldDevice → from.failures before < from.failures after
  pub new_device : fault ≡ NewDevice → to.failures (staging_disk staging) < to.failures disk
  -- where the old file wasn't read, no call of the new one was made
  pub no_call : IsOfOldFile fault ⊎ (fault ≡ OldDevice) → disk ≡ staging_disk staging
  pub untouched : IsUntouched from before after
  pub later : to.failures (staging_disk staging) ≤ to.failures disk
  pub kept : to.keeps disk → to.keeps (staging_disk staging)
