-- A journal's file of version 1: its bytes, what it holds, and what is wrong with one that holds nothing.
use Rattle.std.specs.Prelude.{ℕ, ◌≡◌, ◌≢◌, ◌≤◌, Bool, codes, List, ◌∷◌, ◌++◌, []}
use Rattle.std.specs.Int.{w16, to_be_bytes}
use Rattle.terms_prelude.specs.Terms.{Record, Said, Decided, Header}
use Rattle.statement_codec.specs.Statements.{statement_bytes}
use Rattle.journal.specs.Texts.{Batch, Spelling, batch_records, batches_in, header_numbers, bit_byte}
use Rattle.journal.specs.WellFormed.{IsHeader, AreBatches}
use Rattle.journal.specs.File.{IsFrontOf, IsCutIn, IsBadIn}
use Rattle.migration.specs.declared.fault.MigrateFault.{MigrateFault}
use Rattle.migration.specs.declared.fault.MigrateFault.TheVariants.{NotEmpty, NotOld, OtherHeader, BadRecord, CutShort, OldDevice, NewDevice, Memory, Full}

-- the seven bytes of a decision
abbrev pub old_decision_bytes : ℕ → ℕ → Bool → List ℕ
old_decision_bytes question round bit = 4 ∷ (to_be_bytes w16 question ++ 0 ∷ round ∷ 0 ∷ bit_byte bit ∷ [])

-- the seven bytes of a record
unfoldable pub old_record_bytes : Record → List ℕ
old_record_bytes (Said s) = statement_bytes s
old_record_bytes (Decided question round bit) = old_decision_bytes question round bit

-- the 24 bytes of a header
unfoldable pub old_header_text : Header → List ℕ
old_header_text h = codes "BRACHAJ1" ++ header_numbers h

-- the spelling of version 1
abbrev pub version_1 : Spelling
version_1 = record { width = 7; bytes = old_record_bytes }

-- a lawful header, of a size within narrower bounds
pub record IsOldHeader (header : Header) : Type 0 where
  pub lawful : IsHeader header
  pub members : header.size.n ≤ 32
  pub questions : header.size.questions ≤ 256

-- the file begins with this lawful header
pub record HasOldHeader (header : Header) (file : List ℕ) : Type 0 where
  pub lawful : IsOldHeader header
  pub begins : IsFrontOf (old_header_text header) file

-- The file is the header's bytes, batches whose records in order are these, and then a closed gate and anything.
pub record HoldsOld (header : Header) (records : List Record) (file : List ℕ) : Type 0 where
  pub lawful : IsOldHeader header
  pub batches : List Batch
  pub rest : List ℕ
  pub good : AreBatches header batches
  pub is : file ≡ old_header_text header ++ batches_in version_1 batches ++ 0 ∷ rest
  pub records_are : records ≡ batch_records batches

-- the file is the header's bytes, batches, and then this
pub record GoesOldWrong (header : Header) (IsWrong : List ℕ → Type 0) (file : List ℕ) : Type 0 where
  pub lawful : IsOldHeader header
  pub batches : List Batch
  pub rest : List ℕ
  pub good : AreBatches header batches
  pub is : file ≡ old_header_text header ++ batches_in version_1 batches ++ rest
  pub wrong : IsWrong rest

-- who reads the file by this header finds this wrong
abbrev pub RefusesOld : Header → MigrateFault → List ℕ → Type 0
RefusesOld header NotEmpty file = ⊥
RefusesOld header NotOld file = (other : Header) → HasOldHeader other file → ⊥
RefusesOld header OtherHeader file = (other : Header) × HasOldHeader other file × (other ≢ header)
RefusesOld header BadRecord file = GoesOldWrong header (IsBadIn version_1 header) file
RefusesOld header CutShort file = GoesOldWrong header (IsCutIn version_1) file
RefusesOld header OldDevice file = ⊥
RefusesOld header NewDevice file = ⊥
RefusesOld header Memory file = ⊥
RefusesOld header Full file = ⊥

-- a fault of what the old file holds, and not of a device or of memory
abbrev pub IsOfOldFile : MigrateFault → Type 0
IsOfOldFile NotEmpty = ⊥
IsOfOldFile NotOld = Unit {0}
IsOfOldFile OtherHeader = Unit {0}
IsOfOldFile BadRecord = Unit {0}
IsOfOldFile CutShort = Unit {0}
IsOfOldFile OldDevice = ⊥
IsOfOldFile NewDevice = ⊥
IsOfOldFile Memory = ⊥
IsOfOldFile Full = ⊥
