use Rattle.std.proofs.Common.{◌≡◌, take, string_bytes}
use Rattle.std.specs.List.{flat_map}
use Rattle.settings.specs.Texts.{peer_entry}
use Rattle.settings.proofs.text.peer_entries.Given as goal

-- the peers so far have their lines
abbrev pub invariant-loop-peer : goal.invariant-loop-peer
invariant-loop-peer l = string_bytes l.text ≡ flat_map peer_entry (take l.peer-index l.peers)
