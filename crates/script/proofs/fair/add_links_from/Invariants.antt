use Rattle.std.proofs.Common.{◌≡◌, ◌++◌, drop}
use Rattle.script.specs.Fair.{links_from}
use Rattle.script.proofs.fair.add_links_from.Given as goal

-- with those that are left to add, it is what all make
abbrev pub invariant-loop-to : goal.invariant-loop-to
invariant-loop-to l = l.deck.items ++ links_from l.from (drop l.to-index l.members) ≡ l.fn.deck.items ++ links_from l.from l.members
