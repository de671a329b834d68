-- What a file holds, and what is wrong with one that holds nothing.
use Rattle.std.specs.Prelude.{ℕ, ◌≡◌, ◌≢◌, ◌⊎◌, ◌+◌, ◌*◌, ◌<◌, ◌≤◌, List, [], ◌∷◌, ◌++◌, length, take, drop, codes}
use Rattle.terms_prelude.specs.Terms.{Record, Header}
use Rattle.disk.specs.Model.{State, at_rest}
use Rattle.journal.specs.declared.fault.JournalFault.{JournalFault}
use Rattle.journal.specs.declared.fault.JournalFault.TheVariants.{NotEmpty, BadHeader, OtherHeader, BadRecord, CutShort, Device, Memory, Stopped, Full, OldVersion}
use Rattle.journal.specs.Texts.{Spelling, version_2, header_text, Batch, batches_bytes, batch_records}
use Rattle.journal.specs.WellFormed.{IsHeader, IsWellFormedFor, AreBatches}
pub use Rattle.statement_codec.specs.Bytes.{AreBytes}

-- a file that begins so
abbrev pub IsFrontOf : List ℕ → List ℕ → Type 0
IsFrontOf front file = (rest : List ℕ) × (file ≡ front ++ rest)

-- the file begins with this lawful header
pub record HasHeader (header : Header) (file : List ℕ) : Type 0 where
  pub lawful : IsHeader header
  pub begins : IsFrontOf (header_text header) file

-- The file is the header's bytes, batches whose records in order are these, and then a closed gate and anything.
pub record Holds (header : Header) (records : List Record) (file : List ℕ) : Type 0 where
  pub lawful : IsHeader header
  pub batches : List Batch
  pub rest : List ℕ
  pub good : AreBatches header batches
  pub is : file ≡ header_text header ++ batches_bytes batches ++ 0 ∷ rest
  pub records_are : records ≡ batch_records batches

-- behind the last batch: no gate, or an open one and too few bytes for its count, its records and the next gate
abbrev pub IsCutIn : Spelling → List ℕ → Type 0
IsCutIn spelling [] = Unit {0}
IsCutIn spelling (gate ∷ []) = gate ≢ 0
IsCutIn spelling (gate ∷ high ∷ []) = gate ≢ 0
IsCutIn spelling (gate ∷ high ∷ low ∷ behind) = (gate ≢ 0) × (length behind ≤ spelling.width * (256 * high + low))

-- behind the last batch: an open gate and bytes enough, but a count of 0, or bytes of one record that are no record that
-- is well formed for the header
pub record IsBadIn (spelling : Spelling) (header : Header) (bytes : List ℕ) : Type 0 where
  pub gate : ℕ
  pub high : ℕ
  pub low : ℕ
  pub behind : List ℕ
  pub is : bytes ≡ gate ∷ high ∷ low ∷ behind
  pub opened : gate ≢ 0
  pub whole : spelling.width * (256 * high + low) < length behind
  pub wrong : (256 * high + low ≡ 0) ⊎ ((k : ℕ) × (k < 256 * high + low)
      × ((r : Record) → IsWellFormedFor header r → take spelling.width (drop (spelling.width * k) behind) ≢ spelling.bytes r))

-- the same in the spelling of version 2
abbrev pub IsCut : List ℕ → Type 0
IsCut bytes = IsCutIn version_2 bytes

abbrev pub IsBad : Header → List ℕ → Type 0
IsBad header bytes = IsBadIn version_2 header bytes

-- the file is the header's bytes, batches, and then this
pub record GoesWrong (header : Header) (IsWrong : List ℕ → Type 0) (file : List ℕ) : Type 0 where
  pub lawful : IsHeader header
  pub batches : List Batch
  pub rest : List ℕ
  pub good : AreBatches header batches
  pub is : file ≡ header_text header ++ batches_bytes batches ++ rest
  pub wrong : IsWrong rest

-- a file of version 1: a header's count of bytes at least, of which the first eight are that version's
pub record IsOldVersion (file : List ℕ) : Type 0 where
  pub long : 24 ≤ length file
  pub mark : take 8 file ≡ codes "BRACHAJ1"

-- who opens the file by this header finds this wrong
abbrev pub RefusesFile : Header → JournalFault → List ℕ → Type 0
RefusesFile header NotEmpty file = ⊥
RefusesFile header BadHeader file = ((other : Header) → HasHeader other file → ⊥) × (IsOldVersion file → ⊥)
RefusesFile header OtherHeader file = (other : Header) × HasHeader other file × (other ≢ header)
RefusesFile header BadRecord file = GoesWrong header (IsBad header) file
RefusesFile header CutShort file = GoesWrong header IsCut file
RefusesFile header Device file = ⊥
RefusesFile header Memory file = ⊥
RefusesFile header Stopped file = ⊥
RefusesFile header Full file = ⊥
RefusesFile header OldVersion file = IsOldVersion file

-- All is on the disk: the file holds the records, and the closed gate behind them stands at this place.
pub record IsHeld (s : State) (header : Header) (place : ℕ) (records : List Record) : Type 0 where
  pub lawful : IsHeader header
  pub batches : List Batch
  pub rest : List ℕ
  pub good : AreBatches header batches
  pub on_disk : s ≡ at_rest s.seen
  pub is : s.seen ≡ header_text header ++ batches_bytes batches ++ 0 ∷ rest
  pub gate : place ≡ length (header_text header ++ batches_bytes batches)
  pub records_are : records ≡ batch_records batches
