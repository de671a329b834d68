-- Which epochs run, and which are closed.
use Rattle.std.specs.Prelude.{ℕ, ◌≡◌, ◌<◌, ◌≤◌, ◌==◌, ◌&&◌, ◌+◌, ◌%◌, ◌^◌, Bool, List, [], ◌∷◌, false, filter, length, map, min, nat_lt, not, slice_get, Contains, IfSome, IsSomeAnd, if◌then◌else◌}
use Rattle.std.specs.List.{list_any}
use Rattle.std.specs.Option.{option_map_or}
use Rattle.chain.specs.Opening.{IsOpenEpoch}
use Rattle.chain.specs.Slots.{chain_size}
use Rattle.chain.specs.declared.opening.Known.{Known}
use Rattle.chain.specs.declared.slots.Chain.{Chain}
use Rattle.chain.specs.declared.opening.Ask.{Ask}
use Rattle.epochs.specs.declared.board.Report.{Report}
use Rattle.epochs.specs.declared.running.Running.{Running}
use Rattle.epochs.specs.declared.running.TheConstants.{QUIET}
use Rattle.epochs.specs.declared.state.Parked.{Parked}
use Rattle.epochs.specs.declared.state.State.{State}
use Rattle.epochs.specs.declared.state.TheConstants.{BEHIND, MOST}
use Rattle.epochs.specs.Asking.{tells_next}
use Rattle.epochs.specs.Asks.{heard_since, standing}
use Rattle.epochs.specs.Reports.{is_quiet, running_in}
use Rattle.epochs.specs.Verdicts.{has_begun}

-- what the state says of the chain
pub record IsKnown (state : State) (known : Known) : Type 0 where
  pub newest : known.newest ≡ state.newest
  pub undone : known.undone.now ≡ state.undone.items
  pub asks : known.asks.now ≡ state.asks.list.items

-- the number of changes after another one
abbrev pub next_change : ℕ → ℕ
next_change changes = (changes + 1) % 2 ^ 64

-- the epoch's journal wasn't put away
abbrev pub IsKept : State → ℕ → Type 0
IsKept state epoch = IfSome (slice_get state.verdicts.items epoch) (λ verdicts. 0 < length verdicts.cells.items)

-- an epoch that would be left out if this one became the newest
pub record WasLeftOut (state : State) (newest epoch : ℕ) : Type 0 where
  pub behind : state.newest < epoch
  pub before : epoch < newest
  pub made : epoch < length state.verdicts.items
  pub kept : IsKept state epoch

-- an epoch before this one whose journal is made for it
pub record IsMadeFor (old new : State) (epoch one : ℕ) : Type 0 where
  pub missed : length old.verdicts.items ≤ one
  pub made : one < length new.verdicts.items
  pub before : one < epoch

-- an epoch before this one that has no journal
pub record IsMissed (state : State) (epoch one : ℕ) : Type 0 where
  pub missed : length state.verdicts.items ≤ one
  pub before : one < epoch

-- by the chain's rule the epoch is open, and its journal wasn't put away
pub record MayRun (chain : Chain) (state : State) (epoch : ℕ) : Type 0 where
  pub opens : (known : Known) → IsKnown state known → IsOpenEpoch (chain_size chain) known epoch
  pub kept : IsKept state epoch

-- whether the epoch runs
abbrev pub runs : State → ℕ → Bool
runs state epoch = list_any (λ one. one.epoch == epoch) state.running.items

-- it may run, and doesn't
pub record IsDue (chain : Chain) (state : State) (epoch : ℕ) : Type 0 where
  pub may : MayRun chain state epoch
  pub rests : runs state epoch ≡ false

-- an epoch that runs doesn't rest, and something has happened in it within ten seconds
abbrev pub takes_room : Running → Bool
takes_room one = not one.rests && nat_lt one.quiet QUIET

-- it is behind the newest, and takes the room of another
abbrev pub is_busy : ℕ → Running → Bool
is_busy newest one = nat_lt one.epoch newest && takes_room one

-- there is room for an epoch behind the newest
abbrev pub has_room : State → Bool
has_room state = nat_lt (length (filter (is_busy state.newest) state.running.items)) BEHIND && nat_lt (length state.running.items) MOST

-- an epoch that runs isn't done here, is behind the newest, and takes the room of another
abbrev pub is_made_up_for : State → Running → Bool
is_made_up_for state one = is_busy state.newest one && list_any (λ epoch. epoch == one.epoch) state.undone.items

-- how many of these run
abbrev pub made_up_for : State → ℕ
made_up_for state = length (filter (is_made_up_for state) state.running.items)

-- the epoch isn't done, and nothing of it is known
pub record IsToMakeUp (state : State) (epoch : ℕ) : Type 0 where
  pub undone : Contains state.undone.items epoch
  pub unheard : IsSomeAnd (slice_get state.verdicts.items epoch) (λ verdicts. has_begun verdicts ≡ false)

-- a client waits in it for an epoch that may run, and doesn't
pub record IsAwaited (chain : Chain) (state : State) (one : Parked) : Type 0 where
  pub client : one.is_link ≡ false
  pub due : IsDue chain state one.epoch

-- the least of a number and of these
abbrev pub least : ℕ → List ℕ → ℕ
least first [] = first
least first (epoch ∷ epochs) = least (min first epoch) epochs

-- the first epoch that isn't closed: the newest, or one before it that runs or isn't done
abbrev pub first_open : State → ℕ
first_open state = least (least state.newest (map (λ one. one.epoch) state.running.items)) state.undone.items

-- the asks that stand once an epoch has told a second, which the newest tells for all
abbrev pub ticked : State → ℕ → List (Ask × ℕ)
ticked state epoch =
    if epoch == state.newest then heard_since (tells_next state.asks.second) (standing state.asks) else standing state.asks

-- the epoch runs, and nothing has happened in it for so long that it may be done
abbrev pub has_gone_quiet : Report → State → ℕ → Bool
has_gone_quiet report state epoch = option_map_or (λ one. is_quiet report one.quiet) (running_in state.running.items epoch) false
