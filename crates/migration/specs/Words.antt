-- The words of this crate, and those of the journal that it uses, in one module, for proofs.
pub use Rattle.migration.specs.declared.fault.MigrateFault.{MigrateFault}
pub use Rattle.migration.specs.declared.fault.MigrateFault.TheVariants.{BadRecord, CutShort, Full, Memory, NewDevice, NotEmpty, NotOld, OldDevice, OtherHeader}
pub use Rattle.migration.specs.declared.staging.Staging.{Staging}
pub use Rattle.migration.specs.Faults.{IsFaultOfFilling, IsFaultOfFinish, IsFaultOfPeeking, IsFaultOfReading, new_fault_of, old_fault_of}
unfoldable pub use Rattle.migration.specs.Old.{old_header_text, old_record_bytes}
pub use Rattle.migration.specs.Old.{GoesOldWrong, HasOldHeader, HoldsOld, IsOfOldFile, IsOldHeader, RefusesOld, version_1}
pub use Rattle.migration.specs.OldOutcomes.{HandsOldBack, IsUntouched}
unfoldable pub use Rattle.migration.specs.Staged.{staging_draft}
pub use Rattle.migration.specs.Staged.{HasFilled, HasGrown, HasNotFilled, HasNotStaged, HasStopped, IsStaged, gate_after, staging_disk, staging_header}
unfoldable pub use Rattle.migration.specs.Thousands.{in_thousands, thousands}
pub use Rattle.migration.specs.Outcomes.{HasCarried, HasNotCarried, HoldsThose}
pub use Rattle.journal.specs.Words.{AreBatches, AreBytes, AreWellFormedFor, Batch, BreaksIn, HasBegun, HasCompleted, HasHeader, HasNotBegun, HasNotCompleted, Holds, HoldsAllOrNothing, IsAtRest, IsBadIn, IsBatch, IsCutIn, IsDraftOf, IsFrontOf, IsHeader, IsNoJournal, IsWellFormedFor, ReadsIn, Spelling, StumblesIn, WasRead, batch_bytes, batch_records, batches_bytes, batches_in, bit_byte, journal_text, new_batch}
unfoldable pub use Rattle.journal.specs.Words.{draft_disk, draft_gate, draft_header, header_text, journal_disk, journal_header, record_bytes}
