use Rattle.std.proofs.Common.{◌≡◌, ◌≤◌}
use Rattle.terms_prelude.specs.Terms.{count_below}
use Rattle.chain.specs.Opening.{has_asked}
use Rattle.chain.proofs.opening.asking.Given as goal

abbrev pub invariant-loop-peer : goal.invariant-loop-peer
invariant-loop-peer l = (l.count ≡ count_below l.peer (has_asked l.fn.asks l.fn.epoch)) × (l.count ≤ l.peer)
