use Rattle.commands.proofs.Disks.{new_unfused}
use Rattle.commands.proofs.simulate.empty_disks.Goals as goal

pub returns-clause-no_fuse : goal.returns-clause-no_fuse
returns-clause-no_fuse c = new_unfused c.loop.disks.items c.loop.invariant.new
