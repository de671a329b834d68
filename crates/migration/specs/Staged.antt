-- A new file that is being filled.
use Rattle.std.specs.Prelude.{ℕ, ◌≡◌, ◌⊎◌, ◌+◌, ◌*◌, ◌<◌, ◌≤◌, ◌^◌, List, [], length}
use Rattle.terms_prelude.specs.Terms.{Record, Header}
use Rattle.disk.specs.Model.{State, MayLeave, LeavesOnly, at_rest, after_write}
use Rattle.disk.specs.declared.device.Disk.{Ghosts as DiskGhosts}
use Rattle.journal.specs.declared.draft.Draft.{Draft}
use Rattle.journal.specs.declared.journal.Journal.{Journal}
use Rattle.journal.specs.Texts.{Batch, batches_bytes, journal_text, draft_text}
use Rattle.journal.specs.File.{Holds}
use Rattle.journal.specs.Outcomes.{SparesBytes}
use Rattle.journal.specs.Readers.{journal_disk, IsAtRest}
use Rattle.journal.specs.Drafts.{IsDraftOf, IsNoJournal, draft_disk, draft_header, draft_gate}
use Rattle.migration.specs.Faults.{IsFaultOfFilling}
use Rattle.migration.specs.Thousands.{in_thousands}
use Rattle.migration.specs.declared.fault.MigrateFault.{MigrateFault}
use Rattle.migration.specs.declared.fault.MigrateFault.TheVariants.{NotEmpty, NewDevice, Full}
use Rattle.migration.specs.declared.staging.Staging.{Staging}

-- the draft that it is
unfoldable pub staging_draft : {E : Type 0} → Staging E → Draft E
staging_draft staging = staging.draft

-- its disk
abbrev pub staging_disk : {E : Type 0} → Staging E → E
staging_disk staging = draft_disk (staging_draft staging)

-- the header that it is for
abbrev pub staging_header : {E : Type 0} → Staging E → Header
staging_header staging = draft_header (staging_draft staging)

-- a new file with no records yet, that isn't in doubt
abbrev pub IsStaged : {E : Type 0} → (E → State) → Staging E → Type 0
IsStaged state staging = IsDraftOf state [] (staging_draft staging)

-- The new file wasn't begun, for this fault, which has its cause.
pub record HasNotStaged {E : Type 0} (disk : DiskGhosts E) (before : E) (header : Header) (fault : MigrateFault) (after : E) : Type 0 where
  pub only : (fault ≡ NotEmpty) ⊎ (fault ≡ NewDevice)
  pub not_empty : disk.keeps after → fault ≡ NotEmpty → 0 < length (disk.state before).seen
  pub not_empty_same : disk.keeps after → fault ≡ NotEmpty → disk.state after ≡ disk.state before
  pub any_moment : disk.keeps after → LeavesOnly disk.moment disk.since before after (MayLeave (after_write (disk.state before) 0 (draft_text header [])))
  pub spared : SparesBytes disk before after
  pub device : fault ≡ NewDevice → disk.failures before < disk.failures after
  pub later : disk.failures before ≤ disk.failures after
  pub kept : disk.keeps after → disk.keeps before

-- where the closed gate stands, or would, once the draft has these records
abbrev pub gate_after : {E : Type 0} → Draft E → List Record → ℕ
gate_after draft records = draft_gate draft + length (batches_bytes (in_thousands records))

-- The draft has these batches more. A crash at any moment leaves no journal.
pub record HasGrown {E : Type 0} (disk : DiskGhosts E) (old : Draft E) (batches : List Batch) (new : Draft E) : Type 0 where
  pub added : disk.keeps (draft_disk new) → IsDraftOf disk.state [] old → IsDraftOf disk.state batches new
  pub any_moment : disk.keeps (draft_disk new) → LeavesOnly disk.moment disk.since (draft_disk old) (draft_disk new) IsNoJournal
  pub calls : disk.keeps (draft_disk new) → disk.moment (draft_disk new) ≡ disk.moment (draft_disk old) + 4 * length batches
  pub header_is : draft_header new ≡ draft_header old
  pub gate_is : draft_gate new ≡ draft_gate old + length (batches_bytes batches)
  pub room : 0 < length batches → draft_gate new ≤ 2 ^ 31
  pub quiet : disk.failures (draft_disk new) ≡ disk.failures (draft_disk old)
  pub kept : disk.keeps (draft_disk new) → disk.keeps (draft_disk old)

-- Not all of these records could be added, for this fault. A crash at any moment leaves no journal.
pub record HasStopped {E : Type 0} (disk : DiskGhosts E) (old : Draft E) (records : List Record) (fault : MigrateFault) (new : Draft E) : Type 0 where
  pub only : IsFaultOfFilling fault
  pub any_moment : disk.keeps (draft_disk new) → LeavesOnly disk.moment disk.since (draft_disk old) (draft_disk new) IsNoJournal
  pub device : fault ≡ NewDevice → disk.failures (draft_disk old) < disk.failures (draft_disk new)
  pub full : fault ≡ Full → 2 ^ 31 < gate_after old records
  pub later : disk.failures (draft_disk old) ≤ disk.failures (draft_disk new)
  pub kept : disk.keeps (draft_disk new) → disk.keeps (draft_disk old)

-- The new file is a journal of these records: each file that a crash can leave from now on holds exactly these, and what
-- is there now are their batches and nothing behind them. A crash at any moment left a file that holds them, or one that
-- opening refuses, by whichever header.
pub record HasFilled {E : Type 0} (disk : DiskGhosts E) (draft : Draft E) (records : List Record) (journal : Journal E) : Type 0 where
  pub settled : disk.keeps (journal_disk journal) → IsAtRest disk.state (draft_header draft) records journal
  pub written : disk.keeps (journal_disk journal) → disk.state (journal_disk journal) ≡ at_rest (journal_text (draft_header draft) (in_thousands records))
  pub durable : disk.keeps (journal_disk journal) → (file : List ℕ) → MayLeave (disk.state (journal_disk journal)) file → Holds (draft_header draft) records file
  pub any_moment : disk.keeps (journal_disk journal) → LeavesOnly disk.moment disk.since (draft_disk draft) (journal_disk journal) (λ file. IsNoJournal file ⊎ Holds (draft_header draft) records file)
  -- four of a batch, and two of the first byte
  pub calls : disk.keeps (journal_disk journal) → disk.moment (journal_disk journal) ≡ disk.moment (draft_disk draft) + 4 * length (in_thousands records) + 2
  pub room : 0 < length records → gate_after draft records ≤ 2 ^ 31
  pub quiet : disk.failures (journal_disk journal) ≡ disk.failures (draft_disk draft)
  pub kept : disk.keeps (journal_disk journal) → disk.keeps (draft_disk draft)

-- The new file isn't answered as a journal, for this fault, which has its cause. A crash at any moment left a file that
-- opening refuses, by whichever header, or one that holds exactly these records.
pub record HasNotFilled {E : Type 0} (disk : DiskGhosts E) (draft : Draft E) (records : List Record) (fault : MigrateFault) (after : E) : Type 0 where
  pub only : IsFaultOfFilling fault
  pub any_moment : disk.keeps after → LeavesOnly disk.moment disk.since (draft_disk draft) after (λ file. IsNoJournal file ⊎ Holds (draft_header draft) records file)
  pub device : fault ≡ NewDevice → disk.failures (draft_disk draft) < disk.failures after
  pub full : fault ≡ Full → 2 ^ 31 < gate_after draft records
  pub later : disk.failures (draft_disk draft) ≤ disk.failures after
  pub kept : disk.keeps after → disk.keeps (draft_disk draft)
