use Rattle.std.proofs.Common.{◌≡◌, take, string_bytes}
use Rattle.std.specs.List.{flat_map}
use Rattle.commands.specs.Objects.{peer_item}
use Rattle.commands.proofs.objects.peer_items.Given as goal

-- the peers so far have their items
abbrev pub invariant-loop-peer : goal.invariant-loop-peer
invariant-loop-peer l = string_bytes l.text ≡ flat_map peer_item (take l.peer-index l.peers)
