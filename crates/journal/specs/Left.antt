-- What is still to be read of a journal's file.
use Rattle.std.specs.Prelude.{ℕ, ◌-◌, List, ◌∷◌, drop, length}
use Rattle.terms_prelude.specs.Terms.{Record}
use Rattle.journal.specs.Reading.{TakesBatches}
use Rattle.journal.specs.WellFormed.{IsHeader}
use Rattle.journal.specs.declared.batches.Batches.{Batches}

-- These records are still to be given, in order: batches of them stand in front of a closed gate.
pub record HasLeft (batches : Batches) (records : List Record) : Type 0 where
  pub lawful : IsHeader batches.header
  pub behind : List ℕ
  pub takes : TakesBatches batches.header (drop batches.at batches.bytes.items) records (0 ∷ behind)

-- how many of its bytes are still to be read
unfoldable pub bytes_left : Batches → ℕ
bytes_left batches = length batches.bytes.items - batches.at
