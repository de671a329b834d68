-- What the command `migrate` does, and why it doesn't.
use Rattle.std.specs.Prelude.{ℕ, ◌≡◌, ◌+◌, ◌<◌, ◌≤◌, ◌^◌, List, ◌++◌, codes, length}
use Rattle.std.specs.Fmt.{decimal}
use Rattle.terms_prelude.specs.Terms.{Record, Header}
use Rattle.disk.specs.Model.{MayLeave, at_rest}
use Rattle.disk.specs.declared.device.Disk.{Ghosts as DiskGhosts}
use Rattle.journal.specs.File.{Holds}
use Rattle.journal.specs.Texts.{batches_bytes, journal_text}
use Rattle.migration.specs.Old.{HasOldHeader, HoldsOld, RefusesOld}
use Rattle.migration.specs.Thousands.{in_thousands}
use Rattle.migration.specs.declared.fault.MigrateFault.{MigrateFault}
use Rattle.migration.specs.declared.fault.MigrateFault.TheVariants.{NotEmpty, NotOld, OtherHeader, BadRecord, CutShort, OldDevice, NewDevice, Memory, Full}
use Rattle.numerals.specs.Lines.{line}

-- the line of what was brought over
abbrev pub migrated_text : ℕ → List ℕ
migrated_text count = line (codes "migrated " ++ decimal count)

-- The old file holds so many records, the new one was empty, and is the journal of just these: this disk has their batches
-- and nothing behind them, and each file that a crash can leave of it holds these.
pub record HasMigrated {D E : Type 0} (from : DiskGhosts D) (to : DiskGhosts E) (before after : D) (new : E) (count : ℕ) (disk : E) : Type 0 where
  pub header : Header
  pub records : List Record
  pub count_is : count ≡ length records
  pub held : from.keeps after → HoldsOld header records (from.state before).seen
  pub was_empty : to.keeps disk → length (to.state new).seen ≡ 0
  pub written : to.keeps disk → to.state disk ≡ at_rest (journal_text header (in_thousands records))
  pub durable : to.keeps disk → (file : List ℕ) → MayLeave (to.state disk) file → Holds header records file
  pub quiet : to.failures disk ≡ to.failures new
  pub kept : to.keeps disk → to.keeps new

-- The old file is why it wasn't brought over, or one of the disks, and for want of memory there is nothing to say.
abbrev pub IsWhyNot : {D E : Type 0} → DiskGhosts D → DiskGhosts E → D → D → E → MigrateFault → E → Type 0
IsWhyNot from to before after new NotEmpty disk = to.keeps disk → 0 < length (to.state new).seen
IsWhyNot from to before after new NotOld disk = from.keeps after → (header : Header) → HasOldHeader header (from.state before).seen → ⊥
IsWhyNot from to before after new OtherHeader disk = from.keeps after → ⊥
IsWhyNot from to before after new BadRecord disk = from.keeps after → (header : Header) × RefusesOld header BadRecord (from.state before).seen
IsWhyNot from to before after new CutShort disk = from.keeps after → (header : Header) × RefusesOld header CutShort (from.state before).seen
IsWhyNot from to before after new OldDevice disk = from.failures before < from.failures after
IsWhyNot from to before after new NewDevice disk = to.failures new < to.failures disk
IsWhyNot from to before after new Memory disk = Unit {0}
IsWhyNot from to before after new Full disk = from.keeps after
    → (header : Header) × (records : List Record) × HoldsOld header records (from.state before).seen × (2 ^ 31 < 24 + length (batches_bytes (in_thousands records)))

-- It wasn't brought over, for this fault, which has its cause. A file that had bytes already is as it was.
pub record HasNotMigrated {D E : Type 0} (from : DiskGhosts D) (to : DiskGhosts E) (before after : D) (new : E) (why : MigrateFault) (disk : E) : Type 0 where
  pub cause : IsWhyNot from to before after new why disk
  pub not_empty_same : to.keeps disk → why ≡ NotEmpty → to.state disk ≡ to.state new
  pub later : to.failures new ≤ to.failures disk
  pub kept : to.keeps disk → to.keeps new
