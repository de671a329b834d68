use Rattle.std.proofs.Common.{◌≡◌}
use Rattle.test_threads.proofs.at_once.asks.Given as goal

abbrev pub invariant-loop : goal.invariant-loop
invariant-loop g l = l.pass.board ≡ l.board
