-- The bytes of records, headers and batches.
use Rattle.std.specs.Prelude.{ℕ, ◌≡◌, ◌+◌, ◌*◌, ◌<◌, ◌≤◌, Bool, true, false, codes, List, [], ◌∷◌, ◌++◌, length, drop}
use Rattle.std.specs.List.{flat_map}
use Rattle.std.specs.Int.{w16, w64, to_be_bytes}
use Rattle.terms_prelude.specs.Terms.{Statement, Record, Said, Decided, Header, value_code}
use Rattle.statement_codec.specs.Statements.{kind_byte}

-- the byte of a bit
abbrev pub bit_byte : Bool → ℕ
bit_byte false = 0
bit_byte true = 1

-- the byte of a step and a value of it
abbrev pub last_byte : Statement → ℕ
last_byte s = 16 * s.place.step + value_code s.value

-- the six bytes of a statement
abbrev pub said_bytes : Statement → List ℕ
said_bytes s =
    kind_byte s.kind ∷ (to_be_bytes w16 s.place.question ++ s.place.origin ∷ s.place.round ∷ last_byte s ∷ [])

-- the six bytes of a decision
abbrev pub decision_bytes : ℕ → ℕ → Bool → List ℕ
decision_bytes question round bit = 4 ∷ (to_be_bytes w16 question ++ 0 ∷ round ∷ bit_byte bit ∷ [])

-- the six bytes of a record
unfoldable pub record_bytes : Record → List ℕ
record_bytes (Said s) = said_bytes s
record_bytes (Decided question round bit) = decision_bytes question round bit

-- the 16 bytes of a header behind its version
abbrev pub header_numbers : Header → List ℕ
header_numbers h =
    to_be_bytes w64 h.cluster ++ h.size.n ∷ h.size.t ∷ (to_be_bytes w16 h.size.questions ++ h.me ∷ 0 ∷ 0 ∷ 0 ∷ [])

-- the 24 bytes of a header
unfoldable pub header_text : Header → List ℕ
header_text h = codes "BRACHAJ2" ++ header_numbers h

-- the byte of a batch's gate, and its records
pub record Batch : Type 0 where
  pub gate : ℕ
  pub records : List Record

-- how a version spells a record: in so many bytes, and in which
pub record Spelling : Type 0 where
  pub width : ℕ
  pub bytes : Record → List ℕ

-- each record takes as many bytes, 1 to 255
pub record HasWidth (spelling : Spelling) : Type 0 where
  pub some : 0 < spelling.width
  pub few : spelling.width ≤ 255
  pub long : (r : Record) → length (spelling.bytes r) ≡ spelling.width

-- what stands behind a batch's gate in a spelling: the count of its records in two bytes, and the records
abbrev pub body_in : Spelling → List Record → List ℕ
body_in spelling records = to_be_bytes w16 (length records) ++ flat_map spelling.bytes records

-- the bytes of a batch
abbrev pub batch_in : Spelling → Batch → List ℕ
batch_in spelling batch = batch.gate ∷ body_in spelling batch.records

-- batches one after the other
abbrev pub batches_in : Spelling → List Batch → List ℕ
batches_in spelling batches = flat_map (batch_in spelling) batches

-- the spelling of version 2
abbrev pub version_2 : Spelling
version_2 = record { width = 6; bytes = record_bytes }

-- and in it what stands behind a gate, a batch, and batches
abbrev pub batch_body : List Record → List ℕ
batch_body records = body_in version_2 records

abbrev pub batch_bytes : Batch → List ℕ
batch_bytes batch = batch_in version_2 batch

abbrev pub batches_bytes : List Batch → List ℕ
batches_bytes batches = batches_in version_2 batches

-- their records in order
abbrev pub batch_records : List Batch → List Record
batch_records batches = flat_map (λ batch. batch.records) batches

-- a batch as it is written
abbrev pub new_batch : List Record → Batch
new_batch records = record { gate = 1; records = records }

-- the bytes of a journal of these batches, and nothing behind the closed gate
abbrev pub journal_text : Header → List Batch → List ℕ
journal_text h batches = header_text h ++ batches_bytes batches ++ 0 ∷ []

-- the same with 0 in place of the first byte
abbrev pub draft_text : Header → List Batch → List ℕ
draft_text h batches = 0 ∷ drop 1 (header_text h) ++ batches_bytes batches ++ 0 ∷ []
