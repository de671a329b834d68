use Rattle.std.proofs.Common.{◌≡◌, ◌+◌, ◌++◌, take}
use Rattle.std.specs.Vec.{vec_len, vec_capacity}
use Rattle.links.proofs.recognized.keep.Given as goal

abbrev pub invariant-loop-byte : goal.invariant-loop-byte
invariant-loop-byte l =
    (vec_len l.seen ≡ vec_len l.initial.seen + l.byte-index) × (vec_capacity l.seen ≡ vec_capacity l.initial.seen)
    × (l.seen.items ≡ l.initial.seen.items ++ take l.byte-index l.bytes)
