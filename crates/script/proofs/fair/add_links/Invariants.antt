use Rattle.std.proofs.Common.{◌≡◌, ◌++◌, drop}
use Rattle.std.specs.List.{flat_map}
use Rattle.script.specs.Fair.{links, links_from}
use Rattle.script.proofs.fair.add_links.Given as goal

-- with those that are left to add, it is what all make
abbrev pub invariant-loop-from : goal.invariant-loop-from
invariant-loop-from l =
    l.deck.items ++ flat_map (λ from. links_from from l.members) (drop l.from-index l.members) ≡ l.fn.deck.items ++ links l.members
