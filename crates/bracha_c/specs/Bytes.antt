-- What C has of frames and of a journal's bytes.
use Rattle.std.specs.Prelude.{ℕ, ℤ, ◌≡◌, ◌≢◌, ◌⊎◌, ◌<◌, ◌≤◌, List, [], ◌∷◌, ◌++◌, None, pos, negsuc, length, drop}
use Rattle.terms_prelude.specs.Terms.{Statement, new_size, size_fault, new_header}
use Rattle.statement_codec.specs.Statements.{statement_bytes}
use Rattle.wire.specs.Texts.{frame_bytes, version_byte}
use Rattle.wire.specs.declared.message.Message.TheVariants as message
use Rattle.wire.specs.declared.message.Version.{Version}
use Rattle.journal.specs.Texts.{header_text}
use Rattle.journal.specs.File.{RefusesFile}
use Rattle.journal.specs.Faults.{IsOfFile}
use Rattle.journal.specs.declared.fault.JournalFault.{JournalFault}
use Rattle.journal.specs.declared.fault.JournalFault.TheVariants as journal
use Rattle.engine.specs.declared.fault.EngineFault.{EngineFault}
use Rattle.engine.specs.declared.fault.EngineFault.TheVariants.{Memory, BadStatement, BadRecords}
use Rattle.engine.specs.Texts.{IsStatement, NoStatement}
use Rattle.engine.specs.Frames.{IsFrameOf, IsNoFrame}
use Rattle.engine.specs.Batches.{IsShutBatchOf, IsNoBatch, IsReadOf}
use Rattle.bracha_c.specs.Statuses.{fault_status, journal_status}

-- a hello's frame was written
pub record IsHello (version cluster n t questions from to : ℕ) (status : ℤ) (frame : List ℕ) : Type 0 where
  pub lawful : size_fault n t questions ≡ None
  pub its : Version
  pub version_is : version_byte its ≡ version
  pub from_below : from < n
  pub to_below : to < n
  pub frame_is : frame ≡ frame_bytes (message.Hello its cluster (new_size n t questions) from to)
  pub status_is : status ≡ pos 0

-- the size is lawful, and there is no such version
pub record WrongVersion (version n t questions : ℕ) (status : ℤ) : Type 0 where
  pub lawful : size_fault n t questions ≡ None
  pub none : (its : Version) → version_byte its ≢ version
  pub status_is : status ≡ negsuc 14

-- the size is lawful, and one of these is no member
pub record WrongMembers (n t questions from to : ℕ) (status : ℤ) : Type 0 where
  pub lawful : size_fault n t questions ≡ None
  pub wrong : (n ≤ from) ⊎ (n ≤ to)
  pub status_is : status ≡ negsuc 1

-- the frame of the bytes' statement was written
pub record IsStatementFrame (bytes : List ℕ) (status : ℤ) (frame : List ℕ) : Type 0 where
  pub statement : Statement
  pub lawful : IsStatement statement
  pub bytes_are : bytes ≡ statement_bytes statement
  pub frame_is : frame ≡ frame_bytes (message.Statement statement)
  pub status_is : status ≡ pos 0

-- the bytes are no statement's
pub record WrongStatement (bytes : List ℕ) (status : ℤ) (before after : List ℕ) : Type 0 where
  pub none : NoStatement bytes
  pub same : after ≡ before
  pub status_is : status ≡ negsuc 4

-- the frame of the bytes' statements was written
pub record IsStatementsFrame (bytes : List ℕ) (status : ℤ) (count : ℕ) (before after : List ℕ) : Type 0 where
  pub frame : IsFrameOf bytes count before after
  pub status_is : status ≡ pos 0

-- it wasn't: the bytes are those of no 1 to 99 statements, or there was no memory
pub record WrongStatements (bytes : List ℕ) (status : ℤ) (count : ℕ) : Type 0 where
  pub fault : EngineFault
  pub bad : fault ≡ BadStatement → IsNoFrame bytes
  pub only : (fault ≡ BadStatement) ⊎ (fault ≡ Memory)
  pub status_is : status ≡ fault_status fault
  pub none : count ≡ 0

-- the beginning of a new journal's file was written
pub record IsHead (cluster n t questions me : ℕ) (status : ℤ) (head : List ℕ) : Type 0 where
  pub lawful : size_fault n t questions ≡ None
  pub below : me < n
  pub head_is : head ≡ header_text (new_header cluster (new_size n t questions) me) ++ 0 ∷ []
  pub status_is : status ≡ pos 0

-- the size is lawful, and there is no such member
pub record WrongMember (n t questions me : ℕ) (status : ℤ) : Type 0 where
  pub lawful : size_fault n t questions ≡ None
  pub wrong : n ≤ me
  pub status_is : status ≡ negsuc 1

-- the bytes were written to the front of the room; or there was too little, and nothing was. How many they are was told.
pub record Delivers (bytes : List ℕ) (status : ℤ) (count : ℕ) (before after : List ℕ) : Type 0 where
  pub count_is : count ≡ length bytes
  pub fits : length bytes ≤ length before → (status ≡ pos 0) × (after ≡ bytes ++ drop (length bytes) before)
  pub short : length before < length bytes → (status ≡ negsuc 8) × (after ≡ before)

-- the batch of the bytes' records was delivered
pub record IsBatch (bytes : List ℕ) (status : ℤ) (count : ℕ) (before after : List ℕ) : Type 0 where
  pub batch : List ℕ
  pub batch_is : IsShutBatchOf bytes batch
  pub delivers : Delivers batch status count before after

-- there is none: the bytes are those of no 1 to 65,535 records, or there was no memory
pub record WrongBatch (bytes : List ℕ) (status : ℤ) (count : ℕ) (before after : List ℕ) : Type 0 where
  pub fault : EngineFault
  pub bad : fault ≡ BadRecords → IsNoBatch bytes
  pub only : (fault ≡ BadRecords) ⊎ (fault ≡ Memory)
  pub status_is : status ≡ fault_status fault
  pub none : count ≡ 0
  pub same : after ≡ before

-- the records of the file were delivered, and its closed gate's place was told
pub record IsRead (cluster n t questions me : ℕ) (file : List ℕ) (status : ℤ) (count gate : ℕ) (before after : List ℕ) : Type 0 where
  pub lawful : size_fault n t questions ≡ None
  pub below : me < n
  pub bytes : List ℕ
  pub read : IsReadOf (new_header cluster (new_size n t questions) me) file gate bytes
  pub delivers : Delivers bytes status count before after

-- the file is refused for this fault, which it has; or there was no memory
pub record WrongFile (cluster n t questions me : ℕ) (file : List ℕ) (status : ℤ) (count : ℕ) (before after : List ℕ) : Type 0 where
  pub lawful : size_fault n t questions ≡ None
  pub below : me < n
  pub fault : JournalFault
  pub refused : IsOfFile fault → RefusesFile (new_header cluster (new_size n t questions) me) fault file
  pub only : IsOfFile fault ⊎ (fault ≡ journal.Memory)
  pub status_is : status ≡ journal_status fault
  pub none : count ≡ 0
  pub same : after ≡ before
