use Rattle.asking.proofs.Listening.{next_is}
use Rattle.asking.proofs.sockets.socket_addresses.Goals as goal

pub loop-address-preserved : goal.loop-address-preserved
loop-address-preserved c =
    next_is c.args.addresses.now c.loop-address.address-index _ c.loop-address.sockets.items c.push.new.self.items c.socket_address.result
    c.loop-address-test.true c.loop-address.invariant c.socket_address.ensures c.in_ok-push.ensures.items
