-- A journal's file that isn't one yet: its first byte is 0.
use Rattle.std.specs.Prelude.{ℕ, ◌≡◌, ◌⊎◌, ◌+◌, ◌<◌, ◌≤◌, List, [], ◌++◌, length}
use Rattle.terms_prelude.specs.Terms.{Header}
use Rattle.disk.specs.Model.{State, MayLeave, LeavesOnly, at_rest, after_write}
use Rattle.disk.specs.declared.device.Disk.{Ghosts as DiskGhosts}
use Rattle.journal.specs.declared.draft.Draft.{Draft}
use Rattle.journal.specs.declared.fault.JournalFault.{JournalFault}
use Rattle.journal.specs.declared.fault.JournalFault.TheVariants.{NotEmpty, BadHeader, Device}
use Rattle.journal.specs.declared.journal.Journal.{Journal}
use Rattle.journal.specs.Texts.{Batch, batch_records, batches_bytes, header_text, journal_text, draft_text}
use Rattle.journal.specs.WellFormed.{IsHeader, AreBatches}
use Rattle.journal.specs.Faults.{IsFaultOfCreate}
use Rattle.journal.specs.File.{Holds, RefusesFile}
use Rattle.journal.specs.Outcomes.{SparesBytes}
use Rattle.journal.specs.Readers.{journal_disk, IsAtRest}

-- the file is no journal's, of this version or of the one before: opening refuses it, by whichever header
abbrev pub IsNoJournal : List ℕ → Type 0
IsNoJournal file = (header : Header) → RefusesFile header BadHeader file

-- the disk that it has
unfoldable pub draft_disk : {D : Type 0} → Draft D → D
draft_disk draft = draft.tail.disk

-- the header that it is for
unfoldable pub draft_header : {D : Type 0} → Draft D → Header
draft_header draft = draft.header

-- the place of its closed gate, counted from 0
unfoldable pub draft_gate : {D : Type 0} → Draft D → ℕ
draft_gate draft = draft.tail.gate

-- A draft that isn't in doubt: all of its file is on the disk, and is a journal's of these batches but for the first byte.
pub record IsDraftOf {D : Type 0} (state : D → State) (batches : List Batch) (draft : Draft D) : Type 0 where
  pub lawful : IsHeader (draft_header draft)
  pub good : AreBatches (draft_header draft) batches
  pub written : state (draft_disk draft) ≡ at_rest (draft_text (draft_header draft) batches)
  pub gate_is : draft_gate draft ≡ length (header_text (draft_header draft) ++ batches_bytes batches)

-- The draft was begun in an empty file, and has no batch yet.
pub record HasBegun {D : Type 0} (disk : DiskGhosts D) (before : D) (header : Header) (draft : Draft D) : Type 0 where
  pub drafted : disk.keeps (draft_disk draft) → IsDraftOf disk.state [] draft
  pub header_is : draft_header draft ≡ header
  pub gate_is : draft_gate draft ≡ 24
  pub was_empty : disk.keeps (draft_disk draft) → length (disk.state before).seen ≡ 0
  -- a crash at any moment left what it might have left before, or might leave after the one write
  pub any_moment : disk.keeps (draft_disk draft) → LeavesOnly disk.moment disk.since before (draft_disk draft) (MayLeave (after_write (disk.state before) 0 (draft_text header [])))
  pub three_calls : disk.keeps (draft_disk draft) → disk.moment (draft_disk draft) ≡ disk.moment before + 3
  pub quiet : disk.failures (draft_disk draft) ≡ disk.failures before
  pub kept : disk.keeps (draft_disk draft) → disk.keeps before

-- It wasn't begun, for this fault, which has its cause.
pub record HasNotBegun {D : Type 0} (disk : DiskGhosts D) (before : D) (header : Header) (fault : JournalFault) (after : D) : Type 0 where
  pub only : IsFaultOfCreate fault
  pub not_empty : disk.keeps after → fault ≡ NotEmpty → 0 < length (disk.state before).seen
  pub not_empty_same : disk.keeps after → fault ≡ NotEmpty → disk.state after ≡ disk.state before
  pub any_moment : disk.keeps after → LeavesOnly disk.moment disk.since before after (MayLeave (after_write (disk.state before) 0 (draft_text header [])))
  pub spared : SparesBytes disk before after
  pub device : fault ≡ Device → disk.failures before < disk.failures after
  pub later : disk.failures before ≤ disk.failures after
  pub kept : disk.keeps after → disk.keeps before

-- a file that is no journal's, or that holds the records of these batches
abbrev pub HoldsAllOrNothing : Header → List Batch → List ℕ → Type 0
HoldsAllOrNothing header batches file = IsNoJournal file ⊎ Holds header (batch_records batches) file

-- The draft is a journal: its file is whole on the disk, and from now on each file that a crash can leave holds its
-- records. A crash at any moment of the call left one that does, or one that is no journal's.
pub record HasCompleted {D : Type 0} (disk : DiskGhosts D) (draft : Draft D) (journal : Journal D) : Type 0 where
  pub settled : disk.keeps (journal_disk journal) → (batches : List Batch) → IsDraftOf disk.state batches draft
      → IsAtRest disk.state (draft_header draft) (batch_records batches) journal
  pub written : disk.keeps (journal_disk journal) → (batches : List Batch) → IsDraftOf disk.state batches draft
      → disk.state (journal_disk journal) ≡ at_rest (journal_text (draft_header draft) batches)
  pub durable : disk.keeps (journal_disk journal) → (batches : List Batch) → IsDraftOf disk.state batches draft
      → (file : List ℕ) → MayLeave (disk.state (journal_disk journal)) file → Holds (draft_header draft) (batch_records batches) file
  pub any_moment : disk.keeps (journal_disk journal) → (batches : List Batch) → IsDraftOf disk.state batches draft
      → LeavesOnly disk.moment disk.since (draft_disk draft) (journal_disk journal) (HoldsAllOrNothing (draft_header draft) batches)
  pub two_calls : disk.keeps (journal_disk journal) → disk.moment (journal_disk journal) ≡ disk.moment (draft_disk draft) + 2
  pub quiet : disk.failures (journal_disk journal) ≡ disk.failures (draft_disk draft)
  pub kept : disk.keeps (journal_disk journal) → disk.keeps (draft_disk draft)

-- The disk failed, and is handed back. A crash at any moment of the call left a file that holds the records, or one that is
-- no journal's.
pub record HasNotCompleted {D : Type 0} (disk : DiskGhosts D) (draft : Draft D) (after : D) : Type 0 where
  pub any_moment : disk.keeps after → (batches : List Batch) → IsDraftOf disk.state batches draft
      → LeavesOnly disk.moment disk.since (draft_disk draft) after (HoldsAllOrNothing (draft_header draft) batches)
  pub cause : disk.failures (draft_disk draft) < disk.failures after
  pub kept : disk.keeps after → disk.keeps (draft_disk draft)
