-- Which call answers which faults.
use Rattle.journal.specs.declared.fault.JournalFault.{JournalFault}
use Rattle.journal.specs.declared.fault.JournalFault.TheVariants.{NotEmpty, BadHeader, OtherHeader, BadRecord, CutShort, Device, Memory, Stopped, Full, OldVersion}

-- what making a file answers, a journal's or a draft's
abbrev pub IsFaultOfCreate : JournalFault → Type 0
IsFaultOfCreate NotEmpty = Unit {0}
IsFaultOfCreate BadHeader = ⊥
IsFaultOfCreate OtherHeader = ⊥
IsFaultOfCreate BadRecord = ⊥
IsFaultOfCreate CutShort = ⊥
IsFaultOfCreate Device = Unit {0}
IsFaultOfCreate Memory = ⊥
IsFaultOfCreate Stopped = ⊥
IsFaultOfCreate Full = ⊥
IsFaultOfCreate OldVersion = ⊥

-- what `peek` answers
abbrev pub IsFaultOfPeek : JournalFault → Type 0
IsFaultOfPeek NotEmpty = ⊥
IsFaultOfPeek BadHeader = Unit {0}
IsFaultOfPeek OtherHeader = ⊥
IsFaultOfPeek BadRecord = ⊥
IsFaultOfPeek CutShort = ⊥
IsFaultOfPeek Device = Unit {0}
IsFaultOfPeek Memory = ⊥
IsFaultOfPeek Stopped = ⊥
IsFaultOfPeek Full = ⊥
IsFaultOfPeek OldVersion = Unit {0}

-- what an opening answers
abbrev pub IsFaultOfOpening : JournalFault → Type 0
IsFaultOfOpening NotEmpty = ⊥
IsFaultOfOpening BadHeader = Unit {0}
IsFaultOfOpening OtherHeader = Unit {0}
IsFaultOfOpening BadRecord = Unit {0}
IsFaultOfOpening CutShort = Unit {0}
IsFaultOfOpening Device = Unit {0}
IsFaultOfOpening Memory = Unit {0}
IsFaultOfOpening Stopped = ⊥
IsFaultOfOpening Full = ⊥
IsFaultOfOpening OldVersion = Unit {0}

-- what adding a batch to a file answers
abbrev pub IsFaultOfAdding : JournalFault → Type 0
IsFaultOfAdding NotEmpty = ⊥
IsFaultOfAdding BadHeader = ⊥
IsFaultOfAdding OtherHeader = ⊥
IsFaultOfAdding BadRecord = ⊥
IsFaultOfAdding CutShort = ⊥
IsFaultOfAdding Device = Unit {0}
IsFaultOfAdding Memory = Unit {0}
IsFaultOfAdding Stopped = ⊥
IsFaultOfAdding Full = Unit {0}
IsFaultOfAdding OldVersion = ⊥

-- what `append` answers
abbrev pub IsFaultOfAppend : JournalFault → Type 0
IsFaultOfAppend NotEmpty = ⊥
IsFaultOfAppend BadHeader = ⊥
IsFaultOfAppend OtherHeader = ⊥
IsFaultOfAppend BadRecord = ⊥
IsFaultOfAppend CutShort = ⊥
IsFaultOfAppend Device = Unit {0}
IsFaultOfAppend Memory = Unit {0}
IsFaultOfAppend Stopped = Unit {0}
IsFaultOfAppend Full = Unit {0}
IsFaultOfAppend OldVersion = ⊥

-- a fault of what the file holds, and not of the device or of memory
abbrev pub IsOfFile : JournalFault → Type 0
IsOfFile NotEmpty = Unit {0}
IsOfFile BadHeader = Unit {0}
IsOfFile OtherHeader = Unit {0}
IsOfFile BadRecord = Unit {0}
IsOfFile CutShort = Unit {0}
IsOfFile Device = ⊥
IsOfFile Memory = ⊥
IsOfFile Stopped = ⊥
IsOfFile Full = ⊥
IsOfFile OldVersion = Unit {0}
