-- Which faults end a command, and with which status.
use Rattle.std.specs.Prelude.{◌≡◌, ◌≢◌, ◌⊎◌, ℕ, List, Option, Some}
use Rattle.std.specs.Str.{IsUtf8}
use Rattle.std.specs.IoError.{error_kind}
use Rattle.std.specs.declared.io.Error.{Error}
use Rattle.std.specs.declared.io.ErrorKind.TheVariants.{OutOfMemory}
use Rattle.journal.specs.declared.fault.JournalFault.{JournalFault}
use Rattle.journal.specs.declared.fault.JournalFault.TheVariants as unheld
use Rattle.troubles.specs.declared.fault.Fault.{Fault}
use Rattle.troubles.specs.declared.fault.Fault.TheVariants as ends

-- the fault that an error of a file is: want of memory, or the one that was meant for it
abbrev pub IsFileFault : Fault → Error → Fault → Type 0
IsFileFault meant error given = (error_kind error ≡ OutOfMemory → given ≡ ends.Memory) × (error_kind error ≢ OutOfMemory → given ≡ meant)

-- the same, of an error that isn't known
abbrev pub IsMeant : Fault → Fault → Type 0
IsMeant meant given = (given ≡ ends.Memory) ⊎ (given ≡ meant)

-- the fault of a journal that couldn't be opened
abbrev pub of_journal : JournalFault → Fault
of_journal unheld.Memory = ends.Memory
of_journal unheld.NotEmpty = ends.Journal unheld.NotEmpty
of_journal unheld.BadHeader = ends.Journal unheld.BadHeader
of_journal unheld.OtherHeader = ends.Journal unheld.OtherHeader
of_journal unheld.BadRecord = ends.Journal unheld.BadRecord
of_journal unheld.CutShort = ends.Journal unheld.CutShort
of_journal unheld.Device = ends.Journal unheld.Device
of_journal unheld.Stopped = ends.Journal unheld.Stopped
of_journal unheld.Full = ends.Journal unheld.Full
of_journal unheld.OldVersion = ends.Journal unheld.OldVersion

-- the status after a fault: 2 for those of the words, and 1 for all others
abbrev pub fault_status : Fault → ℕ
fault_status (ends.Argument place) = 2
fault_status (ends.SameFile path) = 2
fault_status ends.Timeout = 2
fault_status ends.Words = 2
fault_status ends.Question = 2
fault_status ends.Member = 2
fault_status ends.First = 2
fault_status ends.Last = 2
fault_status other = 1

-- the bytes of the argument at the place are no text, and the fault says so
abbrev pub IsNoText : ℕ → List ℕ → Fault → Type 0
IsNoText place bytes fault = (IsUtf8 bytes → ⊥) × (fault ≡ ends.Argument place)

-- the paths of two pages aren't the same words
abbrev pub ArePagesApart : Option (List ℕ) → Option (List ℕ) → Type 0
ArePagesApart one other = (path : List ℕ) → one ≡ Some path → other ≢ Some path

-- no two of the paths of a script, its trace, its chart and its page are the same words
abbrev pub AreApart : List ℕ → Option (List ℕ) → Option (List ℕ) → Option (List ℕ) → Type 0
AreApart script trace chart play =
    ((trace ≢ Some script) × (chart ≢ Some script) × (play ≢ Some script))
    × ArePagesApart trace chart × ArePagesApart trace play × ArePagesApart chart play
