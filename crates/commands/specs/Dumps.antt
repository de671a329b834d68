-- The text of a journal.
use Rattle.std.specs.Prelude.{ℕ, List, [], ◌∷◌, ◌++◌, codes, length}
use Rattle.std.specs.List.{flat_map}
use Rattle.std.specs.Fmt.{decimal}
use Rattle.terms_prelude.specs.Terms.{Record, Header}
use Rattle.journal.specs.declared.fault.JournalFault.{JournalFault}
use Rattle.journal.specs.declared.fault.JournalFault.TheVariants.{NotEmpty, BadHeader, OtherHeader, BadRecord, CutShort, Device, Memory, Stopped, Full, OldVersion}
use Rattle.journal.specs.File.{HasHeader, IsOldVersion, RefusesFile}
use Rattle.numerals.specs.Sentences.{sentence}
use Rattle.report.specs.Records.{record_text}
use Rattle.numerals.specs.Lines.{line}
use Rattle.commands.specs.Objects.{count_object, header_object, record_object}
use Rattle.commands.specs.declared.dump.Form.{Form}
use Rattle.commands.specs.declared.dump.Form.TheVariants.{Lines, Objects}

-- the line of a header
abbrev pub header_line : Header → List ℕ
header_line h =
    line (sentence (codes "cluster" ∷ decimal h.cluster ∷ codes "n" ∷ decimal h.size.n ∷ codes "t" ∷ decimal h.size.t
    ∷ codes "questions" ∷ decimal h.size.questions ∷ codes "me" ∷ decimal h.me ∷ []))

-- the line of a record
abbrev pub record_line : Record → List ℕ
record_line r = line (record_text r)

-- the lines of the records, in order
abbrev pub record_lines : List Record → List ℕ
record_lines records = flat_map record_line records

-- the line of the header, and those of the records
abbrev pub dump_text : Header → List Record → List ℕ
dump_text header records = header_line header ++ record_lines records

-- the line of their number
abbrev pub number_text : List Record → List ℕ
number_text records = line (decimal (length records))

-- the text of a header
abbrev pub head_text : Form → Header → List ℕ
head_text Lines header = header_line header
head_text Objects header = header_object header

-- the text of records
abbrev pub records_text : Form → List Record → List ℕ
records_text Lines records = record_lines records
records_text Objects records = flat_map record_object records

-- the text of their number
abbrev pub count_text : Form → List Record → List ℕ
count_text Lines records = number_text records
count_text Objects records = count_object (length records)

-- what is wrong with a file of no journal: it begins with no header, or is of the version before, or it begins with a
-- header and goes wrong behind that. The other faults are none of a file that is only read
abbrev pub IsUnreadable : JournalFault → List ℕ → Type 0
IsUnreadable NotEmpty file = ⊥
IsUnreadable BadHeader file = ((header : Header) → HasHeader header file → ⊥) × (IsOldVersion file → ⊥)
IsUnreadable OtherHeader file = ⊥
IsUnreadable BadRecord file = (header : Header) × RefusesFile header BadRecord file
IsUnreadable CutShort file = (header : Header) × RefusesFile header CutShort file
IsUnreadable Device file = Unit {0}
IsUnreadable Memory file = ⊥
IsUnreadable Stopped file = ⊥
IsUnreadable Full file = ⊥
IsUnreadable OldVersion file = IsOldVersion file
