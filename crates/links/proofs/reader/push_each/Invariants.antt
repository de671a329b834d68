use Rattle.std.proofs.Common.{◌≡◌, ◌++◌, drop}
use Rattle.node.specs.Groups.{said_in}
use Rattle.links.specs.Tosses.{Draws, DrawsSome, tosses_in}
use Rattle.links.proofs.reader.push_each.Given as goal

-- the statements so far, and the tosses that were drawn for them
abbrev pub invariant-loop-statement : goal.invariant-loop-statement
invariant-loop-statement g l =
    (said_in l.events.items ++ drop l.statement-index l.statements ≡ said_in l.initial.events.items ++ l.statements)
    × ((begun : g.row.T.Denot) → Draws g.T.Tosser.may_toss begun (tosses_in l.initial.events.items) l.initial.tosser
    → Draws g.T.Tosser.may_toss begun (tosses_in l.events.items) l.tosser)
    × DrawsSome g.T.Tosser.may_toss l.initial.tosser l.tosser
