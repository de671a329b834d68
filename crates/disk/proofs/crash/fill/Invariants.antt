-- The places before this one are filled.
use Rattle.std.proofs.Common.{◌≡◌, ◌++◌, length, take, drop}
use Rattle.disk.specs.Crash.{filled_from}
use Rattle.disk.proofs.crash.fill.Given as goal

abbrev pub invariant-loop-place : goal.invariant-loop-place
invariant-loop-place l = (length l.seen ≡ length l.initial.seen) × (take l.place l.seen ++ filled_from l.synced l.written l.byte l.place (drop l.place l.seen) ≡ filled_from l.synced l.written l.byte 0 l.initial.seen)
