-- Which call answers which faults.
use Rattle.journal.specs.declared.fault.JournalFault.{JournalFault}
use Rattle.journal.specs.declared.fault.JournalFault.TheVariants as journal
use Rattle.migration.specs.declared.fault.MigrateFault.{MigrateFault}
use Rattle.migration.specs.declared.fault.MigrateFault.TheVariants.{NotEmpty, NotOld, OtherHeader, BadRecord, CutShort, OldDevice, NewDevice, Memory, Full}

-- the fault of a new file
abbrev pub new_fault_of : JournalFault → MigrateFault
new_fault_of journal.NotEmpty = NotEmpty
new_fault_of journal.BadHeader = NewDevice
new_fault_of journal.OtherHeader = NewDevice
new_fault_of journal.BadRecord = NewDevice
new_fault_of journal.CutShort = NewDevice
new_fault_of journal.Device = NewDevice
new_fault_of journal.Memory = Memory
new_fault_of journal.Stopped = NewDevice
new_fault_of journal.Full = Full
new_fault_of journal.OldVersion = NewDevice

-- the fault of old bytes behind their header, of which no other comes than the first three
abbrev pub old_fault_of : JournalFault → MigrateFault
old_fault_of journal.BadRecord = BadRecord
old_fault_of journal.CutShort = CutShort
old_fault_of journal.Memory = Memory
old_fault_of journal.NotEmpty = OldDevice
old_fault_of journal.BadHeader = OldDevice
old_fault_of journal.OtherHeader = OldDevice
old_fault_of journal.Device = OldDevice
old_fault_of journal.Stopped = OldDevice
old_fault_of journal.Full = OldDevice
old_fault_of journal.OldVersion = OldDevice

-- what reading its header alone answers
abbrev pub IsFaultOfPeeking : MigrateFault → Type 0
IsFaultOfPeeking NotEmpty = ⊥
IsFaultOfPeeking NotOld = Unit {0}
IsFaultOfPeeking OtherHeader = ⊥
IsFaultOfPeeking BadRecord = ⊥
IsFaultOfPeeking CutShort = ⊥
IsFaultOfPeeking OldDevice = Unit {0}
IsFaultOfPeeking NewDevice = ⊥
IsFaultOfPeeking Memory = ⊥
IsFaultOfPeeking Full = ⊥

-- what reading the old file answers
abbrev pub IsFaultOfReading : MigrateFault → Type 0
IsFaultOfReading NotEmpty = ⊥
IsFaultOfReading NotOld = Unit {0}
IsFaultOfReading OtherHeader = Unit {0}
IsFaultOfReading BadRecord = Unit {0}
IsFaultOfReading CutShort = Unit {0}
IsFaultOfReading OldDevice = Unit {0}
IsFaultOfReading NewDevice = ⊥
IsFaultOfReading Memory = Unit {0}
IsFaultOfReading Full = ⊥

-- what adding records answers, and making the new file a journal
abbrev pub IsFaultOfFilling : MigrateFault → Type 0
IsFaultOfFilling NotEmpty = ⊥
IsFaultOfFilling NotOld = ⊥
IsFaultOfFilling OtherHeader = ⊥
IsFaultOfFilling BadRecord = ⊥
IsFaultOfFilling CutShort = ⊥
IsFaultOfFilling OldDevice = ⊥
IsFaultOfFilling NewDevice = Unit {0}
IsFaultOfFilling Memory = Unit {0}
IsFaultOfFilling Full = Unit {0}

-- what finishing answers
abbrev pub IsFaultOfFinish : MigrateFault → Type 0
IsFaultOfFinish NotEmpty = ⊥
IsFaultOfFinish NotOld = Unit {0}
IsFaultOfFinish OtherHeader = Unit {0}
IsFaultOfFinish BadRecord = Unit {0}
IsFaultOfFinish CutShort = Unit {0}
IsFaultOfFinish OldDevice = Unit {0}
IsFaultOfFinish NewDevice = Unit {0}
IsFaultOfFinish Memory = Unit {0}
IsFaultOfFinish Full = Unit {0}
