-- Which faults end a command, and when.
use Rattle.std.specs.Prelude.{ℕ, ◌≡◌, ◌≢◌, ◌⊎◌, List}
use Rattle.std.specs.IoError.{error_kind}
use Rattle.std.specs.declared.io.Error.{Error}
use Rattle.std.specs.declared.io.ErrorKind.TheVariants.{OutOfMemory}
use Rattle.commands.specs.declared.fault.InitFault.{InitFault}
use Rattle.commands.specs.declared.fault.InitFault.TheVariants as made
use Rattle.commands.specs.declared.fault.DumpFault.{DumpFault}
use Rattle.commands.specs.declared.fault.DumpFault.TheVariants as dump
use Rattle.commands.specs.declared.fault.SimulateFault.{SimulateFault}
use Rattle.commands.specs.declared.fault.SimulateFault.TheVariants as simulate
use Rattle.commands.specs.declared.fault.TalkFault.{TalkFault}
use Rattle.commands.specs.declared.fault.TalkFault.TheVariants as talk
use Rattle.journal.specs.Faults.{IsFaultOfOpening}
use Rattle.journal.specs.declared.fault.JournalFault.{JournalFault}
use Rattle.journal.specs.declared.fault.JournalFault.TheVariants as unheld
use Rattle.script.specs.declared.fault.ScriptFault.{ScriptFault}
use Rattle.script.specs.declared.fault.ScriptFault.TheVariants as unread
use Rattle.terms_prelude.specs.Terms.{Size}
use Rattle.script.specs.Acts.{TossedAct}
use Rattle.script.specs.Scripts.{SaysCluster, IsFirstFault}
use Rattle.sim.specs.declared.faults.SimFault.{SimFault}
use Rattle.sim.specs.declared.faults.SimFault.TheVariants as unrun
use Rattle.sim.specs.Outcomes.{AreLiars}

-- a journal that couldn't be made: its file isn't empty, or else the disk failed
abbrev pub of_create : JournalFault → InitFault
of_create unheld.NotEmpty = made.NotEmpty
of_create unheld.BadHeader = made.Device
of_create unheld.OtherHeader = made.Device
of_create unheld.BadRecord = made.Device
of_create unheld.CutShort = made.Device
of_create unheld.Device = made.Device
of_create unheld.Memory = made.Device
of_create unheld.Stopped = made.Device
of_create unheld.Full = made.Device
of_create unheld.OldVersion = made.Device

-- one that couldn't be opened or read
abbrev pub of_opening : JournalFault → DumpFault
of_opening unheld.Memory = dump.Memory
of_opening unheld.NotEmpty = dump.Journal unheld.NotEmpty
of_opening unheld.BadHeader = dump.Journal unheld.BadHeader
of_opening unheld.OtherHeader = dump.Journal unheld.OtherHeader
of_opening unheld.BadRecord = dump.Journal unheld.BadRecord
of_opening unheld.CutShort = dump.Journal unheld.CutShort
of_opening unheld.Device = dump.Journal unheld.Device
of_opening unheld.Stopped = dump.Journal unheld.Stopped
of_opening unheld.Full = dump.Journal unheld.Full
of_opening unheld.OldVersion = dump.Journal unheld.OldVersion

-- memory, the output, or what is wrong with a journal that is only read
abbrev pub IsOfDump : DumpFault → Type 0
IsOfDump dump.Stream = Unit {0}
IsOfDump dump.Memory = Unit {0}
IsOfDump (dump.Journal why) = IsFaultOfOpening why

-- a write failed, or memory was refused
abbrev pub IsOfPrint : DumpFault → Type 0
IsOfPrint ends = (ends ≡ dump.Memory) ⊎ (ends ≡ dump.Stream)

-- the fault of a text that is no script
abbrev pub of_script : ScriptFault → SimulateFault
of_script (unread.Line number) = simulate.Line number
of_script unread.Events = simulate.Events
of_script (unread.Size size) = simulate.Size size
of_script unread.Memory = simulate.Memory

-- and of a script that can't be run
abbrev pub of_sim : SimFault → SimulateFault
of_sim unrun.BadLiars = simulate.Sim unrun.BadLiars
of_sim unrun.BadDisks = simulate.Sim unrun.BadDisks
of_sim unrun.Device = simulate.Sim unrun.Device
of_sim unrun.Memory = simulate.Memory
of_sim unrun.Full = simulate.Sim unrun.Full

-- a write failed, or memory was refused
abbrev pub IsOfWriting : SimulateFault → Type 0
IsOfWriting ends = (ends ≡ simulate.Memory) ⊎ (ends ≡ simulate.Stream)

-- the text says a script of liars that can't be: nothing else keeps a script from being run over empty disks
abbrev pub CannotRun : List ℕ → SimFault → Type 0
CannotRun text unrun.BadLiars =
    (size : Size) × (liars : List ℕ) × (events : List TossedAct) × SaysCluster text size liars events × (AreLiars size liars → ⊥)
CannotRun text unrun.BadDisks = ⊥
CannotRun text unrun.Device = ⊥
CannotRun text unrun.Memory = ⊥
CannotRun text unrun.Full = ⊥

-- memory, the output, or the first thing that is wrong with the script that the text is to say
abbrev pub IsOfSimulate : List ℕ → SimulateFault → Type 0
IsOfSimulate text (simulate.Line number) = IsFirstFault text (unread.Line number)
IsOfSimulate text simulate.Events = IsFirstFault text unread.Events
IsOfSimulate text (simulate.Size size) = IsFirstFault text (unread.Size size)
IsOfSimulate text (simulate.Sim why) = CannotRun text why
IsOfSimulate text simulate.Stream = Unit {0}
IsOfSimulate text simulate.Memory = Unit {0}

-- the fault that an error of a stream is: want of memory, or the stream's own
abbrev pub IsDumpFaultOf : Error → DumpFault → Type 0
IsDumpFaultOf error ends =
    ((ends ≡ dump.Memory) ⊎ (ends ≡ dump.Stream))
    × (error_kind error ≡ OutOfMemory → ends ≡ dump.Memory)
    × (error_kind error ≢ OutOfMemory → ends ≡ dump.Stream)

-- the same, of a simulation
abbrev pub IsSimulateFaultOf : Error → SimulateFault → Type 0
IsSimulateFaultOf error ends =
    ((ends ≡ simulate.Memory) ⊎ (ends ≡ simulate.Stream))
    × (error_kind error ≡ OutOfMemory → ends ≡ simulate.Memory)
    × (error_kind error ≢ OutOfMemory → ends ≡ simulate.Stream)

-- the same, of a client
abbrev pub IsTalkFaultOf : Error → TalkFault → Type 0
IsTalkFaultOf error ends =
    ((ends ≡ talk.Memory) ⊎ (ends ≡ talk.Stream))
    × (error_kind error ≡ OutOfMemory → ends ≡ talk.Memory)
    × (error_kind error ≢ OutOfMemory → ends ≡ talk.Stream)
