-- Where the bytes of a journal of version 1 go wrong.
use Rattle.std.specs.Prelude.{ℕ, ◌≡◌, ◌≢◌, ◌⊎◌, ◌+◌, ◌*◌, ◌<◌, ◌≤◌, List, [], ◌∷◌, ◌++◌, length, take, drop, Option, Some, None, IsSomeAnd}
use Rattle.terms_prelude.specs.Terms.{Header}
use Rattle.journal.specs.Texts.{Batch, batch_in, batches_in}
use Rattle.journal.specs.WellFormed.{AreBatches, IsBatch}
use Rattle.migration.specs.Old.{HasOldHeader, RefusesOld, old_header_text, version_1}
use Rattle.migration.specs.declared.fault.MigrateFault.{MigrateFault}
use Rattle.migration.specs.declared.fault.MigrateFault.TheVariants.{NotEmpty, NotOld, OtherHeader, BadRecord, CutShort, OldDevice, NewDevice, Memory, Full}

-- no batch of the header with a gate behind it stands at the start of these bytes
abbrev pub NoOldBatch : Header → List ℕ → Type 0
NoOldBatch header bytes =
    (batch : Batch) (gate : ℕ) (behind : List ℕ) → IsBatch header batch → bytes ≢ batch_in version_1 batch ++ gate ∷ behind

-- so many bytes of the file are its header and whole batches, each with a gate behind it, and no such batch follows
pub record IsOldGoodUpTo (header : Header) (place : ℕ) (file : List ℕ) : Type 0 where
  pub batches : List Batch
  pub rest : List ℕ
  pub good : AreBatches header batches
  pub is : file ≡ old_header_text header ++ batches_in version_1 batches ++ rest
  pub place_is : place ≡ length (old_header_text header ++ batches_in version_1 batches)
  pub gated : rest ≡ [] → batches ≡ []
  pub last : NoOldBatch header rest

-- the file's header and whole batches end at this place, or it begins with no header and this is its start
pub record IsOldGoodEnd (file : List ℕ) (place : ℕ) : Type 0 where
  pub good : (header : Header) → HasOldHeader header file → IsOldGoodUpTo header place file
  pub none : ((header : Header) → HasOldHeader header file → ⊥) → place ≡ 0

-- a batch of these bytes alone, behind such bytes of a header, is refused
abbrev pub IsOldBadAlone : Header → List ℕ → List ℕ → Type 0
IsOldBadAlone header front bytes = (fault : MigrateFault) × RefusesOld header fault (front ++ (1 ∷ 0 ∷ 1 ∷ bytes) ++ 0 ∷ [])

-- behind the whole batches, which end there, the seven bytes at this place are a record that is refused alone
abbrev pub IsOldBadRecord : Header → ℕ → List ℕ → ℕ → Type 0
IsOldBadRecord header end file place = (end ≤ place) × IsOldBadAlone header (take 24 file) (take 7 (drop place file))

-- the file's whole batches end at this place, or a record behind their end is wrong there
abbrev pub IsOldBadPlace : List ℕ → ℕ → Type 0
IsOldBadPlace file place =
    IsOldGoodEnd file place
    ⊎ ((end : ℕ) × (header : Header) × IsOldGoodEnd file end × HasOldHeader header file × IsOldBadRecord header end file place)

-- where the old file goes wrong by this fault, if the fault is that file's
abbrev pub IsOldPlaceOf : MigrateFault → List ℕ → Option ℕ → Type 0
IsOldPlaceOf NotEmpty file place = place ≡ None
IsOldPlaceOf NotOld file place = place ≡ Some 0
IsOldPlaceOf OtherHeader file place = place ≡ Some 0
IsOldPlaceOf BadRecord file place = IsSomeAnd place (IsOldBadPlace file)
IsOldPlaceOf CutShort file place = IsSomeAnd place (IsOldGoodEnd file)
IsOldPlaceOf OldDevice file place = place ≡ None
IsOldPlaceOf NewDevice file place = place ≡ None
IsOldPlaceOf Memory file place = place ≡ None
IsOldPlaceOf Full file place = place ≡ None

-- the bytes are a batch of the header, and these behind it, a gate first
pub record BeginsWithOldBatch (header : Header) (bytes behind : List ℕ) : Type 0 where
  pub batch : Batch
  pub good : IsBatch header batch
  pub is : bytes ≡ batch_in version_1 batch ++ behind
  pub gated : 0 < length behind

-- the bytes are batches of the header, each with a gate behind it, and this rest, which begins with no such batch
pub record IsOldSkipped (header : Header) (bytes rest : List ℕ) : Type 0 where
  pub batches : List Batch
  pub good : AreBatches header batches
  pub is : bytes ≡ batches_in version_1 batches ++ rest
  pub gated : rest ≡ [] → batches ≡ []
  pub last : NoOldBatch header rest

-- an open gate, a count, and bytes for so many records
pub record IsOldChunk (bytes : List ℕ) : Type 0 where
  pub gate : ℕ
  pub high : ℕ
  pub low : ℕ
  pub records : List ℕ
  pub is : bytes ≡ gate ∷ high ∷ low ∷ records
  pub opened : gate ≢ 0
  pub whole : length records ≡ 7 * (256 * high + low)

-- whatever is read as a header, no batch with a gate behind it stands at the start of these bytes
abbrev pub NoOldChunk : List ℕ → Type 0
NoOldChunk bytes = (header : Header) → NoOldBatch header bytes
