use Rattle.std.proofs.Common.{ℕ, ◌≡◌, ◌≢◌, ◌<◌, Some}
use Rattle.running.specs.Refusals.{place_at}
use Rattle.running.specs.declared.refusals.KeptRefusal.{KeptRefusal}
use Rattle.running.proofs.refusals.find.Given as goal

abbrev pub invariant-loop-at : goal.invariant-loop-at
invariant-loop-at l = (k : ℕ) (kept : KeptRefusal) → k < l.at → place_at l.places k ≡ Some kept → kept.refusal ≢ l.refusal
