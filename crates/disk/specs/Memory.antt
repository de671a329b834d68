-- What a disk in memory stands for.
use Rattle.std.specs.Prelude.{ℕ, Option, List, length}
use Rattle.disk.specs.Model.{State, at_rest}
use Rattle.disk.specs.Replay.{replay, LeftSince}
use Rattle.disk.specs.declared.memory.MemDisk.{MemDisk}

-- what reads give, and what a crash may leave
abbrev pub memory_state : MemDisk → State
memory_state disk = replay (at_rest disk.log.start) disk.log.calls

-- the file with which it began
abbrev pub memory_begun : MemDisk → List ℕ
memory_begun disk = disk.log.start

-- how many calls it has answered
abbrev pub memory_moment : MemDisk → ℕ
memory_moment disk = length disk.log.calls

-- what a crash might have left at some moment from that one on
abbrev pub memory_since : MemDisk → ℕ → List ℕ → Type 0
memory_since disk = LeftSince disk.log.start disk.log.calls

-- how often it has failed
abbrev pub memory_failures : MemDisk → ℕ
memory_failures disk = disk.failures.value

-- the fuse: how many calls still pass before all fail, where one is in
abbrev pub fuse_left : MemDisk → Option ℕ
fuse_left disk = disk.fuse

-- the same disk with this fuse, or with none
abbrev pub with_fuse : MemDisk → Option ℕ → MemDisk
with_fuse disk calls = record disk { fuse = calls }
