use Rattle.std.specs.Prelude.{List, ℕ, length}
use Rattle.commands.specs.Damage.{IsSkipped}
use Rattle.commands.proofs.damage.behind_batches.Given as goal

-- what is skipped of the rest is skipped of the whole
abbrev pub invariant-loop-behind : goal.invariant-loop-behind
invariant-loop-behind l = (rest : List ℕ) → IsSkipped l.header l.rest rest → IsSkipped l.header l.bytes rest

abbrev pub decreases-loop-behind : goal.decreases-loop-behind
decreases-loop-behind l = length l.rest
