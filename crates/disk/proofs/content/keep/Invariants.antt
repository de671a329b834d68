-- The bytes before this one are kept.
use Rattle.std.proofs.Common.{◌≡◌, ◌+◌, ◌++◌, take}
use Rattle.std.specs.Vec.{vec_len, vec_capacity}
use Rattle.disk.specs.System.{placed}
use Rattle.disk.proofs.content.keep.Given as goal

abbrev pub invariant-loop-i : goal.invariant-loop-i
invariant-loop-i l =
    (vec_len l.under ≡ vec_len l.initial.under + l.i) × (vec_capacity l.under ≡ vec_capacity l.initial.under)
    × (l.under.items ≡ l.initial.under.items ++ placed l.at (take l.i l.bytes))
