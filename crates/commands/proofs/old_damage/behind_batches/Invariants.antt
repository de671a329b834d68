use Rattle.std.specs.Prelude.{List, ℕ, length}
use Rattle.commands.specs.OldDamage.{IsOldSkipped}
use Rattle.commands.proofs.old_damage.behind_batches.Given as goal

-- what is skipped of the rest is skipped of the whole
abbrev pub invariant-loop-behind : goal.invariant-loop-behind
invariant-loop-behind l = (rest : List ℕ) → IsOldSkipped l.header l.rest rest → IsOldSkipped l.header l.bytes rest

abbrev pub decreases-loop-behind : goal.decreases-loop-behind
decreases-loop-behind l = length l.rest
