-- What waits to be told.
use Rattle.std.specs.Prelude.{ℕ, ◌≡◌, ◌⊎◌, ◌+◌, ◌-◌, ◌^◌, ◌≤◌, min, List, [], ◌∷◌, ◌++◌, length}
use Rattle.running.specs.declared.events.LogEvent.{LogEvent}

-- the events that wait, in order, and how many came since that don't
pub record Waiting : Type 0 where
  pub events : List LogEvent
  pub missed : ℕ

-- nothing waits
abbrev pub none : Waiting
none = record { events = []; missed = 0 }

-- one more, but never past 2^64 - 1
abbrev pub one_more : ℕ → ℕ
one_more count = min (count + 1) (2 ^ 64 - 1)

-- an event came: it waits behind the others, or is counted as missed, as it must be where 1,024 wait
pub record HasCome (old : Waiting) (event : LogEvent) (new : Waiting) : Type 0 where
  pub put : (new ≡ record old { events = old.events ++ event ∷ [] }) ⊎ (new ≡ record old { missed = one_more old.missed })
  pub full : 1024 ≤ length old.events → new.events ≡ old.events

-- these events came, in turn
abbrev pub HaveCome : Waiting → List LogEvent → Waiting → Type 0
HaveCome old [] new = new ≡ old
HaveCome old (event ∷ events) new = (next : Waiting) × HasCome old event next × HaveCome next events new
