-- A number is that of one slot.
use Rattle.std.proofs.Common.{ℕ, ◌≡◌, ◌+◌, ◌*◌, ◌/◌, sym, ap, ◌∙◌, arith}
use Rattle.std.proofs.lemmas.Nat.{div-mul-add}
use Rattle.chain.specs.Slots.{IsSlot, chain_size}
use Rattle.chain.specs.declared.slots.Chain.{Chain}
use Rattle.chain.specs.declared.slots.Slot.{Slot}

-- the epoch is how often the questions of an epoch go into the number
epoch_of : (chain : Chain) (number : ℕ) (slot : Slot) → IsSlot chain number slot → slot.epoch ≡ number / (chain_size chain).questions
epoch_of chain number slot is =
    sym (ap (λ (n : ℕ). n / (chain_size chain).questions) is.counted ∙ div-mul-add slot.epoch (chain_size chain).questions slot.question is.within)

same_rest : (k e f q r n : ℕ) → e ≡ f → n ≡ e * k + q → n ≡ f * k + r → q ≡ r
same_rest k e f q r n same first second =
    let moved : f * k ≡ e * k = ap (λ (x : ℕ). x * k) (sym same) in
    omega (arith, moved, first, second)

abbrev new_slot : ℕ → ℕ → Slot
new_slot epoch question = record { epoch = epoch; question = question }

pub one_slot : (chain : Chain) (number : ℕ) (slot other : Slot) → IsSlot chain number slot → IsSlot chain number other → slot ≡ other
one_slot chain number slot other is also =
    let epochs : slot.epoch ≡ other.epoch = epoch_of chain number slot is ∙ sym (epoch_of chain number other also) in
    let questions : slot.question ≡ other.question =
    same_rest (chain_size chain).questions slot.epoch other.epoch slot.question other.question number epochs is.counted also.counted in
    ap (λ (e : ℕ). new_slot e slot.question) epochs ∙ ap (new_slot other.epoch) questions
