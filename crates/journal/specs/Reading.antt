-- What reading the bytes behind a header finds.
use Rattle.std.specs.Prelude.{ℕ, ◌≡◌, ◌≢◌, ◌⊎◌, ◌*◌, ◌<◌, List, ◌∷◌, ◌++◌, length, take, drop}
use Rattle.std.specs.List.{flat_map}
use Rattle.terms_prelude.specs.Terms.{Statement, Record, Header, new_place, value_code}
use Rattle.journal.specs.declared.fault.JournalFault.{JournalFault}
use Rattle.journal.specs.declared.fault.JournalFault.TheVariants.{BadRecord, CutShort, Memory}
use Rattle.journal.specs.Texts.{Spelling, version_2, Batch, batches_in, batch_records}
use Rattle.statement_codec.specs.Statements.{kind_byte}
use Rattle.journal.specs.WellFormed.{IsWellFormedFor, AreWellFormedFor, AreBatches}
use Rattle.journal.specs.File.{IsCutIn, IsBadIn}

-- These bytes are the texts of batches whose records in order are these, a closed gate at this place, and anything.
pub record ReadsIn (spelling : Spelling) (header : Header) (bytes : List ℕ) (gate : ℕ) (records : List Record) : Type 0 where
  pub batches : List Batch
  pub rest : List ℕ
  pub good : AreBatches header batches
  pub is : bytes ≡ batches_in spelling batches ++ 0 ∷ rest
  pub gate_is : gate ≡ length (batches_in spelling batches)
  pub records_are : records ≡ batch_records batches

-- these bytes are the texts of batches, and then this
pub record StumblesIn (spelling : Spelling) (header : Header) (IsWrong : List ℕ → Type 0) (bytes : List ℕ) : Type 0 where
  pub batches : List Batch
  pub rest : List ℕ
  pub good : AreBatches header batches
  pub is : bytes ≡ batches_in spelling batches ++ rest
  pub wrong : IsWrong rest

-- these bytes are these records
pub record AreTextIn (spelling : Spelling) (header : Header) (bytes : List ℕ) (records : List Record) : Type 0 where
  pub good : AreWellFormedFor header records
  pub is : bytes ≡ flat_map spelling.bytes records

-- of so many records that these bytes should be one is none
pub record HasOddIn (spelling : Spelling) (header : Header) (count : ℕ) (bytes : List ℕ) : Type 0 where
  pub place : ℕ
  pub below : place < count
  pub odd : (r : Record) → IsWellFormedFor header r → take spelling.width (drop (spelling.width * place) bytes) ≢ spelling.bytes r

-- In front of these bytes stand batches whose records in order are these, and behind them that.
pub record TakesIn (spelling : Spelling) (header : Header) (bytes : List ℕ) (records : List Record) (behind : List ℕ) : Type 0 where
  pub batches : List Batch
  pub good : AreBatches header batches
  pub is : bytes ≡ batches_in spelling batches ++ behind
  pub records_are : records ≡ batch_records batches

-- these are the parts of a statement in bytes
pub record HasBytes (s : Statement) (kind question origin round step value : ℕ) : Type 0 where
  pub kind_is : kind_byte s.kind ≡ kind
  pub place_is : s.place ≡ new_place question origin round step
  pub value_is : value_code s.value ≡ value

-- why bytes behind a header were refused: by want of memory, or by what is wrong behind batches
abbrev pub BreaksIn : Spelling → Header → JournalFault → List ℕ → Type 0
BreaksIn spelling header fault bytes =
    (fault ≡ Memory)
    ⊎ ((fault ≡ CutShort) × StumblesIn spelling header (IsCutIn spelling) bytes)
    ⊎ ((fault ≡ BadRecord) × StumblesIn spelling header (IsBadIn spelling header) bytes)

-- the same in the spelling of version 2
abbrev pub TakesBatches : Header → List ℕ → List Record → List ℕ → Type 0
TakesBatches header bytes records behind = TakesIn version_2 header bytes records behind

abbrev pub BreaksBatches : Header → JournalFault → List ℕ → Type 0
BreaksBatches header fault bytes = BreaksIn version_2 header fault bytes
