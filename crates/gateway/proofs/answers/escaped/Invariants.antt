use Rattle.std.proofs.Common.{◌≡◌, take}
use Rattle.gateway.specs.Answers.{escaped}
use Rattle.gateway.proofs.answers.escaped.Given as goal

-- the bytes so far are escaped
abbrev pub invariant-loop-byte : goal.invariant-loop-byte
invariant-loop-byte l = l.bytes.items ≡ escaped (take l.byte-index l.text)
