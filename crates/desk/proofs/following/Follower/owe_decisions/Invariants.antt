use Rattle.std.proofs.Common.{ℕ, List}
use Rattle.node.specs.Standings.{IsDecisionOf}
use Rattle.desk.specs.Following.{Tells}
use Rattle.desk.proofs.following.Follower.owe_decisions.Given as goal

-- what it was told and is owed stays in turn
abbrev pub invariant-loop : goal.invariant-loop
invariant-loop g l = (from : ℕ) (old wrote : List ℕ) → Tells (IsDecisionOf g.row.D.Denot l.fn.hub) from old l.initial.self wrote
    → Tells (IsDecisionOf g.row.D.Denot l.fn.hub) from old l.self wrote
