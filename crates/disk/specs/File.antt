-- What is said of a disk that is a file.
use Rattle.std.specs.Prelude.{ℕ, Bool, List, length}
use Rattle.disk.specs.System.{Done}
use Rattle.disk.specs.Real.{real_done}
use Rattle.disk.specs.Model.{State}
use Rattle.disk.specs.Replay.{FilePast, LeftSince}
use Rattle.disk.specs.Supposed.{FileModel, Reply, IsFaithful, past_of, state_after}
use Rattle.disk.specs.declared.file.FileDisk.{FileDisk}

-- how often it has failed
abbrev pub file_failures : {P : Type 0} → FileDisk P → ℕ
file_failures disk = disk.named.failures.value

-- what its calls were answered so far, the last of them first
abbrev pub file_replies : {P : Type 0} → FileDisk P → List Reply
file_replies disk = disk.replies.value

-- so far each of its calls was answered as by this file
abbrev pub AnswersAs : {P : Type 0} → FileModel → FileDisk P → Type 0
AnswersAs file disk = IsFaithful file (file_replies disk)

-- this file with its calls so far
abbrev pub file_past : {P : Type 0} → FileModel → FileDisk P → FilePast
file_past file disk = past_of file (file_replies disk)

-- what reads of this file give now, and what a crash may leave
abbrev pub file_state : {P : Type 0} → FileModel → FileDisk P → State
file_state file disk = state_after file (file_replies disk)

-- how many calls there were
abbrev pub file_moment : {P : Type 0} → FileModel → FileDisk P → ℕ
file_moment file disk = length (file_past file disk).calls

-- what a crash might have left at some moment from that one on
abbrev pub file_since : {P : Type 0} → FileModel → FileDisk P → ℕ → List ℕ → Type 0
file_since file disk = LeftSince (file_past file disk).start (file_past file disk).calls

-- what the system's calls on the file did
abbrev pub file_done : {P : Type 0} → FileDisk P → Done
file_done disk = real_done disk.named.file

-- and those on its folder
abbrev pub folder_done : {P : Type 0} → FileDisk P → Done
folder_done disk = real_done disk.named.folder

-- whether a sync has put the folder on the disk
abbrev pub is_named : {P : Type 0} → FileDisk P → Bool
is_named disk = disk.named.named
