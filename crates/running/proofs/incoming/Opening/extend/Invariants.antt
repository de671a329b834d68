use Rattle.std.proofs.Common.{ℕ, ◌≡◌, ◌++◌, List, take}
use Rattle.running.proofs.incoming.Opening.extend.Given as goal

abbrev pub invariant-loop-byte : goal.invariant-loop-byte
invariant-loop-byte l = (before : List ℕ) → l.initial.self ≡ take 18 before → l.self ≡ take 18 (before ++ take l.byte-index l.bytes)
