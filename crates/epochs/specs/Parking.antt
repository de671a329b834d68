-- The connections that wait for an epoch that doesn't run yet.
use Rattle.std.specs.Prelude.{ℕ, ◌≡◌, ◌==◌, ◌-◌, Bool, false, not, All, List, Option, drop, filter, if◌then◌else◌, length, nat_le, position, take}
use Rattle.epochs.specs.declared.state.Parked.{Parked}
use Rattle.epochs.specs.declared.state.TheConstants.{LINK_PATIENCE, CLIENT_PATIENCE}

-- the place of the first that waits for this epoch
abbrev pub place_of : List Parked → ℕ → Option ℕ
place_of parked epoch = position (λ one. one.epoch == epoch) parked

-- those that wait for other epochs
abbrev pub waiting_elsewhere : ℕ → List Parked → List Parked
waiting_elsewhere epoch parked = filter (λ one. not (one.epoch == epoch)) parked

-- a client that waits for this epoch
abbrev pub IsClientOf : ℕ → Parked → Type 0
IsClientOf epoch one = (one.epoch ≡ epoch) × (one.is_link ≡ false)

-- whether a connection waits on at that second
abbrev pub is_patient : ℕ → Parked → Bool
is_patient now one = nat_le (now - one.since) (if one.is_link then LINK_PATIENCE else CLIENT_PATIENCE)

-- those that waited wait on, and behind them clients of this epoch alone
pub record WaitOn (epoch : ℕ) (old new : List Parked) : Type 0 where
  pub stay : take (length old) new ≡ old
  pub came : All (IsClientOf epoch) (drop (length old) new)
