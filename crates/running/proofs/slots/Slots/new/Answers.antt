use Rattle.std.proofs.Common.{rules, ℕ, zero, suc, ◌≡◌, refl, arith, replicate}
use Rattle.std.proofs.lemmas.List.{places}
use Rattle.running.specs.Slots.{slot_at, unused}
use Rattle.running.proofs.slots.Slots.new.Goals as goal

-- before any is shut each is free
all_unused : (n k : ℕ) → slot_at (replicate n unused) k ≡ unused
all_unused zero k = refl
all_unused (suc n) zero = refl
all_unused (suc n) (suc k) = all_unused n k

pub loop-at-init : goal.loop-at-init
loop-at-init c = (refl, omega arith, (λ k below. all_unused 32 k), (λ k from below. absurd (omega arith)))

pub loop-at-preserved : goal.loop-at-preserved
loop-at-preserved c = search (rules, places)
