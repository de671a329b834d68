-- Where the bytes of a journal go wrong.
use Rattle.std.specs.Prelude.{ℕ, ◌≡◌, ◌≢◌, ◌⊎◌, ◌+◌, ◌*◌, ◌<◌, ◌≤◌, if◌then◌else◌, nat_lt, List, [], ◌∷◌, ◌++◌, codes, length, take, drop, Option, Some, None, IsSomeAnd}
use Rattle.std.specs.List.{flat_map}
use Rattle.sim.specs.Texts.{byte_text}
use Rattle.terms_prelude.specs.Terms.{Header}
use Rattle.journal.specs.declared.fault.JournalFault.{JournalFault}
use Rattle.journal.specs.declared.fault.JournalFault.TheVariants.{NotEmpty, BadHeader, OtherHeader, BadRecord, CutShort, Device, Memory, Stopped, Full, OldVersion}
use Rattle.journal.specs.File.{HasHeader, RefusesFile}
use Rattle.journal.specs.Texts.{Batch, batch_bytes, header_text, batches_bytes}
use Rattle.journal.specs.WellFormed.{AreBatches, IsBatch}

-- no batch of the header with a gate behind it stands at the start of these bytes
abbrev pub NoBatch : Header → List ℕ → Type 0
NoBatch header bytes =
    (batch : Batch) (gate : ℕ) (behind : List ℕ) → IsBatch header batch → bytes ≢ batch_bytes batch ++ gate ∷ behind

-- so many bytes of the file are its header and whole batches, each with a gate behind it, and no such batch follows
pub record IsGoodUpTo (header : Header) (place : ℕ) (file : List ℕ) : Type 0 where
  pub batches : List Batch
  pub rest : List ℕ
  pub good : AreBatches header batches
  pub is : file ≡ header_text header ++ batches_bytes batches ++ rest
  pub place_is : place ≡ length (header_text header ++ batches_bytes batches)
  pub gated : rest ≡ [] → batches ≡ []
  pub last : NoBatch header rest

-- the file's header and whole batches end at this place, or it begins with no header and this is its start
pub record IsGoodEnd (file : List ℕ) (place : ℕ) : Type 0 where
  pub good : (header : Header) → HasHeader header file → IsGoodUpTo header place file
  pub none : ((header : Header) → HasHeader header file → ⊥) → place ≡ 0

-- a batch of these bytes alone, behind such bytes of a header, is refused
abbrev pub IsBadAlone : Header → List ℕ → List ℕ → Type 0
IsBadAlone header front bytes = (fault : JournalFault) × RefusesFile header fault (front ++ (1 ∷ 0 ∷ 1 ∷ bytes) ++ 0 ∷ [])

-- behind the whole batches, which end there, the six bytes at this place are a record that is refused alone
abbrev pub IsBadRecord : Header → ℕ → List ℕ → ℕ → Type 0
IsBadRecord header end file place = (end ≤ place) × IsBadAlone header (take 24 file) (take 6 (drop place file))

-- the file's whole batches end at this place, or a record behind their end is wrong there
abbrev pub IsBadPlace : List ℕ → ℕ → Type 0
IsBadPlace file place =
    IsGoodEnd file place
    ⊎ ((end : ℕ) × (header : Header) × IsGoodEnd file end × HasHeader header file × IsBadRecord header end file place)

-- where a file goes wrong by this fault, if the fault is the file's
abbrev pub IsPlaceOf : JournalFault → List ℕ → Option ℕ → Type 0
IsPlaceOf NotEmpty file place = place ≡ Some 0
IsPlaceOf BadHeader file place = place ≡ Some 0
IsPlaceOf OtherHeader file place = place ≡ Some 0
IsPlaceOf BadRecord file place = IsSomeAnd place (IsBadPlace file)
IsPlaceOf CutShort file place = IsSomeAnd place (IsGoodEnd file)
IsPlaceOf Device file place = place ≡ None
IsPlaceOf Memory file place = place ≡ None
IsPlaceOf Stopped file place = place ≡ None
IsPlaceOf Full file place = place ≡ None
IsPlaceOf OldVersion file place = place ≡ Some 0

-- the bytes are a batch of the header, and these behind it, a gate first
pub record BeginsWithBatch (header : Header) (bytes behind : List ℕ) : Type 0 where
  pub batch : Batch
  pub good : IsBatch header batch
  pub is : bytes ≡ batch_bytes batch ++ behind
  pub gated : 0 < length behind

-- the bytes are batches of the header, each with a gate behind it, and this rest, which begins with no such batch
pub record IsSkipped (header : Header) (bytes rest : List ℕ) : Type 0 where
  pub batches : List Batch
  pub good : AreBatches header batches
  pub is : bytes ≡ batches_bytes batches ++ rest
  pub gated : rest ≡ [] → batches ≡ []
  pub last : NoBatch header rest

-- an open gate, a count, and bytes for so many records
pub record IsChunk (bytes : List ℕ) : Type 0 where
  pub gate : ℕ
  pub high : ℕ
  pub low : ℕ
  pub records : List ℕ
  pub is : bytes ≡ gate ∷ high ∷ low ∷ records
  pub opened : gate ≢ 0
  pub whole : length records ≡ 6 * (256 * high + low)

-- whatever is read as a header, no batch with a gate behind it stands at the start of these bytes
abbrev pub NoChunk : List ℕ → Type 0
NoChunk bytes = (header : Header) → NoBatch header bytes

-- a blank and the byte's two lower case digits
abbrev pub byte_word : ℕ → List ℕ
byte_word byte = 32 ∷ byte_text byte

-- each byte's two digits behind a blank
abbrev pub hex_words : List ℕ → List ℕ
hex_words bytes = flat_map byte_word bytes

-- how the bytes at a place are shown: the first sixteen, and whether there are more
abbrev pub shown_bytes : List ℕ → List ℕ
shown_bytes [] = codes "end of file"
shown_bytes (byte ∷ bytes) =
    if nat_lt 15 (length bytes) then codes "bytes" ++ (hex_words (byte ∷ take 15 bytes) ++ codes " ..")
    else codes "bytes" ++ hex_words (byte ∷ bytes)
