use Rattle.std.proofs.Common.{◌≡◌, take}
use Rattle.sim.specs.Links.{statements_in}
use Rattle.sim.proofs.links.statements_among.Given as goal

abbrev pub invariant-loop-message : goal.invariant-loop-message
invariant-loop-message l = l.statements.items ≡ statements_in (take l.message-index l.messages)
