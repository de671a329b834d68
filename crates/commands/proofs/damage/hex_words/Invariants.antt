use Rattle.std.proofs.Common.{◌≡◌, take, string_bytes}
use Rattle.commands.specs.Damage.{hex_words}
use Rattle.commands.proofs.damage.hex_words.Given as goal

-- the bytes so far are written
abbrev pub invariant-loop-byte : goal.invariant-loop-byte
invariant-loop-byte l = string_bytes l.text ≡ hex_words (take l.byte-index l.bytes)
