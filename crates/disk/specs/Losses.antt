-- Laws of what may be lost by a crash, or by a write that failed.
use Rattle.std.specs.Prelude.{◌≡◌, ◌⊎◌, ℕ, ◌+◌, ◌<◌, ◌≤◌, false, List, ◌++◌, length, get_or}
use Rattle.disk.specs.Model.{State, MayLeave, FailedWrite, is_touched, overwritten, at_rest, after_write}

-- each file no shorter than at the last sync may be left that is the same there outside what was written since
abbrev pub LeavesAnything : Type 0
LeavesAnything =
    (s : State) (file : List ℕ) → length s.synced ≤ length file
    → ((k : ℕ) → k < length s.synced → is_touched k s.written ≡ false → get_or file k 0 ≡ get_or s.synced k 0)
    → MayLeave s file

-- so a file that is all on the disk may be left with anything behind it
abbrev pub LeavesLonger : Type 0
LeavesLonger = (file behind : List ℕ) → MayLeave (at_rest file) (file ++ behind)

-- after a write that passed each file from before may be left, and that file with any bytes in the range
abbrev pub LeavesTorn : Type 0
LeavesTorn =
    (s : State) (at : ℕ) (bytes others file : List ℕ) → length others ≡ length bytes → MayLeave s file
    → MayLeave (after_write s at bytes) file × MayLeave (after_write s at bytes) (overwritten file at others)

-- and so after one that failed
abbrev pub LeavesTornOnceFailed : Type 0
LeavesTornOnceFailed =
    (old new : State) (at n : ℕ) (others file : List ℕ) → FailedWrite at n old new → length others ≡ n → MayLeave old file
    → MayLeave new file × MayLeave new (overwritten file at others)

-- a write that failed leaves what reads give, of all that is on the disk, outside its range
abbrev pub LeavesElsewhere : Type 0
LeavesElsewhere =
    (old new : State) (at n k : ℕ) → FailedWrite at n old new → k < length old.synced → (k < at) ⊎ (at + n ≤ k)
    → get_or new.seen k 0 ≡ get_or old.seen k 0
