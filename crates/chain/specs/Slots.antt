-- Slots of a chain, and their epochs.
use Rattle.std.specs.Prelude.{ℕ, ◌≡◌, ◌+◌, ◌*◌, ◌<◌}
use Rattle.terms_prelude.specs.Terms.{Size}
use Rattle.chain.specs.declared.slots.Chain.{Chain}
use Rattle.chain.specs.declared.slots.Slot.{Slot}

-- the number of the first cluster
unfoldable pub chain_first : Chain → ℕ
chain_first chain = chain.first

-- the size of each of its clusters
unfoldable pub chain_size : Chain → Size
chain_size chain = chain.size

-- the slot has this number: as many slots are before its epoch as the epochs before it have questions
pub record IsSlot (chain : Chain) (number : ℕ) (slot : Slot) : Type 0 where
  pub within : slot.question < (chain_size chain).questions
  pub counted : number ≡ slot.epoch * (chain_size chain).questions + slot.question

-- the epoch's cluster has this number
abbrev pub HasCluster : Chain → ℕ → ℕ → Type 0
HasCluster chain epoch cluster = cluster ≡ chain_first chain + epoch
