-- What holds of chains.
use Rattle.std.specs.Prelude.{ℕ, ◌≡◌, ◌⊎◌, ◌+◌, ◌<◌, ◌≤◌, ◌==◌, ◌&&◌, Bool, true, List, [], ◌∷◌}
use Rattle.std.specs.List.{list_any}
use Rattle.terms_prelude.specs.Terms.{Size, IsSize, count_below, has_decided}
use Rattle.world.specs.World.{Step, IsCorrect, IsRun, start, after_all}
use Rattle.chain.specs.Slots.{HasCluster, IsSlot, chain_size}
use Rattle.chain.specs.declared.slots.Chain.{Chain}
use Rattle.chain.specs.declared.slots.Slot.{Slot}

-- a number is that of one slot alone
abbrev pub HasOneSlot : Type 0
HasOneSlot = (chain : Chain) (number : ℕ) (slot other : Slot) → IsSlot chain number slot → IsSlot chain number other → slot ≡ other

-- a slot has one number alone
abbrev pub HasOneNumber : Type 0
HasOneNumber = (chain : Chain) (number other : ℕ) (slot : Slot) → IsSlot chain number slot → IsSlot chain other slot → number ≡ other

-- no two epochs are clusters of one number
abbrev pub HasOneEpoch : Type 0
HasOneEpoch = (chain : Chain) (epoch other cluster : ℕ) → HasCluster chain epoch cluster → HasCluster chain other cluster → epoch ≡ other

-- a run of each epoch, in which few enough lie
pub record AreRuns (size : Size) (liars : ℕ → ℕ → Bool) (steps : ℕ → List Step) : Type 0 where
  pub lawful : IsSize size
  pub few : (epoch : ℕ) → count_below size.n (liars epoch) ≤ size.t
  pub runs : (epoch : ℕ) → IsRun size (liars epoch) start (steps epoch)

-- the member saved this decision of the slot
abbrev pub HasDecidedSlot : (ℕ → List Step) → ℕ → Slot → Bool → Type 0
HasDecidedSlot steps member slot bit =
    (round : ℕ) × (has_decided ((after_all start (steps slot.epoch)).journal member) slot.question round bit ≡ true)

-- no two decisions of correct members on a slot differ
abbrev pub AgreeOnSlots : Type 0
AgreeOnSlots =
    (size : Size) (liars : ℕ → ℕ → Bool) (steps : ℕ → List Step) → AreRuns size liars steps
    → (chain : Chain) → chain_size chain ≡ size
    → (number : ℕ) (slot other : Slot) → IsSlot chain number slot → IsSlot chain number other
    → (a b : ℕ) (v u : Bool) → IsCorrect size (liars slot.epoch) a → IsCorrect size (liars other.epoch) b
    → HasDecidedSlot steps a slot v → HasDecidedSlot steps b other u → v ≡ u

-- members that opened epochs, the last of them first
abbrev pub Openings : Type 0
Openings = List (ℕ × ℕ)

-- whether the member opened the epoch
abbrev pub has_opened : Openings → ℕ → ℕ → Bool
has_opened openings epoch member = list_any (λ one. one.0 == member && one.1 == epoch) openings

-- The member may open the epoch: it isn't past the one in front of the newest with a proposal of it, or more than t members
-- opened it before.
abbrev pub MayOpen : Size → (ℕ → ℕ) → Openings → ℕ → ℕ → Type 0
MayOpen size newest before member epoch = (epoch ≤ newest member + 1) ⊎ (size.t < count_below size.n (has_opened before epoch))

-- each correct member opened only what it might
abbrev pub AreLawful : Size → (ℕ → Bool) → (ℕ → ℕ) → Openings → Type 0
AreLawful size liars newest [] = Unit {0}
AreLawful size liars newest (one ∷ before) =
    AreLawful size liars newest before × (IsCorrect size liars one.0 → MayOpen size newest before one.0 one.1)

-- What a correct member opened isn't past the one in front of the newest epoch in which some correct member has a proposal.
abbrev pub IsOpenedForProposals : Type 0
IsOpenedForProposals =
    (size : Size) (liars : ℕ → Bool) (newest : ℕ → ℕ) → count_below size.n liars ≤ size.t
    → (openings : Openings) → AreLawful size liars newest openings
    → (member epoch : ℕ) → IsCorrect size liars member → has_opened openings epoch member ≡ true
    → (proposer : ℕ) × IsCorrect size liars proposer × (epoch ≤ newest proposer + 1)
