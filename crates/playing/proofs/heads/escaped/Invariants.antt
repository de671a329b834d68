use Rattle.std.proofs.Common.{◌≡◌, take}
use Rattle.playing.specs.Heads.{escaped}
use Rattle.playing.proofs.heads.escaped.Given as goal

-- the bytes so far are escaped
abbrev pub invariant-loop-byte : goal.invariant-loop-byte
invariant-loop-byte l = l.bytes.items ≡ escaped (take l.byte-index l.text)
