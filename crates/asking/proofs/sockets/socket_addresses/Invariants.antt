use Rattle.std.proofs.Common.{take}
use Rattle.asking.specs.Sockets.{AreSocketsOf}
use Rattle.asking.proofs.sockets.socket_addresses.Given as goal

abbrev pub invariant-loop-address : goal.invariant-loop-address
invariant-loop-address l = AreSocketsOf (take l.address-index l.addresses) l.sockets.items
