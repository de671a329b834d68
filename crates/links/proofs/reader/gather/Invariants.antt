use Rattle.std.proofs.Common.{◌≡◌, ◌++◌, drop}
use Rattle.node.specs.Groups.{said_in}
use Rattle.links.specs.Handing.{in_order}
use Rattle.links.specs.Tosses.{Draws, tosses_in}
use Rattle.links.proofs.reader.gather.Given as goal

-- the statements so far, and the tosses that were drawn for them
abbrev pub invariant-loop-message : goal.invariant-loop-message
invariant-loop-message g l =
    (said_in l.events.items ++ in_order l.version (drop l.message-index l.messages) ≡ in_order l.version l.messages)
    × Draws g.T.Tosser.may_toss l.initial.tosser (tosses_in l.events.items) l.tosser
