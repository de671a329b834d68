-- What is supposed of a file, and what it makes of the calls of a disk.
use Rattle.std.specs.Prelude.{◌≡◌, ℕ, List, [], ◌∷◌, length, take, drop}
use Rattle.disk.specs.Model.{State}
use Rattle.disk.specs.Replay.{Call, FilePast, begun, listed, state_of}

-- what a call of the disk was answered
pub data Reply : Type 0 where
  -- the file has so many bytes
  Told : (n : ℕ) → Reply
  -- a read from a place on gave these bytes
  Gave : (at : ℕ) → (bytes : List ℕ) → Reply
  -- a write of these bytes at a place succeeded
  Wrote : (at : ℕ) → (bytes : List ℕ) → Reply
  -- a write of n bytes at a place failed
  Lost : (at : ℕ) → (n : ℕ) → Reply
  -- a sync succeeded
  Synced : Reply
  -- a length, a read or a sync failed
  Refused : Reply

-- what is supposed of a file: the bytes with which it begins, and what a write that fails leaves in its range, by the calls
-- that were answered before it
pub record FileModel : Type 0 where
  pub start : List ℕ
  pub torn : List Reply → List ℕ

-- what a call did to such a file, by the calls that were answered before it, the last of them first
abbrev pub call_of : FileModel → List Reply → Reply → Call
call_of file before (Told n) = Call.Still
call_of file before (Gave at bytes) = Call.Still
call_of file before (Wrote at bytes) = Call.Wrote at bytes
call_of file before (Lost at n) = Call.Torn at n (file.torn before)
call_of file before Synced = Call.Synced
call_of file before Refused = Call.Still

-- the file and all calls so far, of which the last is first here
abbrev pub past_of : FileModel → List Reply → FilePast
past_of file [] = begun file.start
past_of file (reply ∷ before) = listed (past_of file before) (call_of file before reply)

-- what reads give after these calls, and what a crash may leave
abbrev pub state_after : FileModel → List Reply → State
state_after file replies = state_of (past_of file replies)

-- the answer is the one that the file has, where it stands so: a length is the file's, and a read gives its bytes
abbrev pub IsAnswer : State → Reply → Type 0
IsAnswer s (Told n) = n ≡ length s.seen
IsAnswer s (Gave at bytes) = bytes ≡ take (length bytes) (drop at s.seen)
IsAnswer s (Wrote at bytes) = Unit {0}
IsAnswer s (Lost at n) = Unit {0}
IsAnswer s Synced = Unit {0}
IsAnswer s Refused = Unit {0}

-- each call so far was answered as by such a file
abbrev pub IsFaithful : FileModel → List Reply → Type 0
IsFaithful file [] = Unit {0}
IsFaithful file (reply ∷ before) = IsFaithful file before × IsAnswer (state_after file before) reply
