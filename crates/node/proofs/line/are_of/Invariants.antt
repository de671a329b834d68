use Rattle.std.proofs.Common.{◌≡◌, drop}
use Rattle.node.specs.Lines.{are_of}
use Rattle.node.proofs.line.are_of.Given as goal

abbrev pub invariant-loop-one : goal.invariant-loop-one
invariant-loop-one l = are_of l.heard l.peer l.events ≡ are_of (drop l.one-index l.heard) l.peer l.rest
