-- The words of this crate in one module, for proofs.
pub use Rattle.journal.specs.declared.fault.JournalFault.{JournalFault}
pub use Rattle.journal.specs.declared.fault.JournalFault.TheVariants.{BadHeader, BadRecord, CutShort, Device, Full, Memory, NotEmpty, OldVersion, OtherHeader, Stopped}
pub use Rattle.journal.specs.declared.journal.Journal.{Journal}
pub use Rattle.journal.specs.Commit.{IsCommit, IsShut, bytes_behind, commit_states, gate_opened, with_batch}
pub use Rattle.journal.specs.declared.draft.Draft.{Draft}
unfoldable pub use Rattle.journal.specs.Drafts.{draft_disk, draft_gate, draft_header}
pub use Rattle.journal.specs.Drafts.{HasBegun, HasCompleted, HasNotBegun, HasNotCompleted, HoldsAllOrNothing, IsDraftOf, IsNoJournal}
pub use Rattle.journal.specs.Faults.{IsFaultOfAdding, IsFaultOfOpening, IsOfFile}
pub use Rattle.journal.specs.File.{AreBytes, GoesWrong, HasHeader, Holds, IsBad, IsBadIn, IsCut, IsCutIn, IsFrontOf, IsHeld, IsOldVersion, RefusesFile}
pub use Rattle.journal.specs.Outcomes.{AddsAllOrNothing, HandsBack, HasAdded, HasOpened, SparesBytes, WasRead}
pub use Rattle.journal.specs.Passing.{OneLeaves, PassesThrough, last_of}
unfoldable pub use Rattle.journal.specs.Readers.{journal_disk, journal_gate, journal_header, journal_is_stopped}
pub use Rattle.journal.specs.Readers.{IsAtRest}
pub use Rattle.journal.specs.Reading.{AreTextIn, BreaksBatches, BreaksIn, HasBytes, HasOddIn, ReadsIn, StumblesIn, TakesBatches, TakesIn}
unfoldable pub use Rattle.journal.specs.Texts.{header_text, record_bytes}
pub use Rattle.journal.specs.Texts.{Batch, HasWidth, Spelling, batch_body, batch_bytes, batch_in, batch_records, batches_bytes, batches_in, body_in, bit_byte, draft_text, journal_text, new_batch, version_2}
pub use Rattle.journal.specs.WellFormed.{AreBatches, AreWellFormedFor, IsBatch, IsDecisionFor, IsHeader, IsStatementFor, IsWellFormedFor}
