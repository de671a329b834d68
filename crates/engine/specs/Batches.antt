-- The bytes of an append.
use Rattle.std.specs.Prelude.{ℕ, ◌≡◌, ◌≤◌, List, [], ◌∷◌, ◌++◌, length}
use Rattle.terms_prelude.specs.Terms.{Record, Header}
use Rattle.disk.specs.Model.{at_rest}
use Rattle.journal.specs.File.{IsHeld}
use Rattle.journal.specs.Texts.{batch_body}
use Rattle.engine.specs.Texts.{AreRecords, records_bytes}

-- a batch behind a closed gate, and the closed gate behind it: what an append writes first
abbrev pub shut_batch : List Record → List ℕ
shut_batch records = 0 ∷ batch_body records ++ 0 ∷ []

-- the bytes are those of 1 to 65,535 records, and these are their batch's
pub record IsShutBatchOf (bytes batch : List ℕ) : Type 0 where
  pub records : List Record
  pub lawful : AreRecords records
  pub bytes_are : bytes ≡ records_bytes records
  pub some : 1 ≤ length records
  pub few : length records ≤ 65535
  pub batch_is : batch ≡ shut_batch records

-- no such records have these bytes
abbrev pub IsNoBatch : List ℕ → Type 0
IsNoBatch bytes = (records : List Record) → AreRecords records → 1 ≤ length records → length records ≤ 65535 → bytes ≡ records_bytes records → ⊥

-- the file holds the records that have these bytes, and its closed gate stands at this place
pub record IsReadOf (header : Header) (file : List ℕ) (gate : ℕ) (bytes : List ℕ) : Type 0 where
  pub records : List Record
  pub held : IsHeld (at_rest file) header gate records
  pub bytes_are : bytes ≡ records_bytes records
