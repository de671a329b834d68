use Rattle.std.proofs.Common.{◌≡◌, take, string_bytes}
use Rattle.std.specs.List.{flat_map}
use Rattle.commands.specs.Checks.{peer_line}
use Rattle.commands.proofs.check.peer_lines.Given as goal

-- the peers so far have their lines
abbrev pub invariant-loop-peer : goal.invariant-loop-peer
invariant-loop-peer l = string_bytes l.text ≡ flat_map peer_line (take l.peer-index l.peers)
