-- The slots of the desk's clients.
use Rattle.std.specs.Prelude.{ℕ, ◌≡◌, ◌+◌, ◌-◌, ◌<◌, ◌≤◌, min, max, Bool, not, ◌&&◌, ◌||◌, ◌==◌, nat_lt, if◌then◌else◌, Option, Some, None, List, slice_index_or, slice_set}
use Rattle.std.specs.List.{position_from}
use Rattle.running.specs.declared.slots.Slot.{Slot}
use Rattle.running.specs.declared.slots.GivenSlot.{GivenSlot}
use Rattle.running.specs.declared.slots.GivenSlot.TheVariants.{Free, InPlaceOf}

-- free, and never taken
abbrev pub unused : Slot
unused = record { sessions = 0; heard = 0 }

-- given to nobody: it is neither free, nor has it a client that could be closed for another
abbrev pub shut : Slot
shut = record { sessions = 2; heard = 0 }

-- how many clients are let in at once where so many are to be: one at least, and 32 at most
abbrev pub clients_let_in : ℕ → ℕ
clients_let_in clients = min 32 (max 1 clients)

-- what a place has
abbrev pub slot_at : List Slot → ℕ → Slot
slot_at slots at = slice_index_or slots at unused

abbrev pub sessions_at : List Slot → ℕ → ℕ
sessions_at slots at = (slot_at slots at).sessions

abbrev pub heard_at : List Slot → ℕ → ℕ
heard_at slots at = (slot_at slots at).heard

abbrev pub is_free : Slot → Bool
is_free slot = slot.sessions == 0

-- it has a client that isn't being closed
abbrev pub has_client : Slot → Bool
has_client slot = slot.sessions == 1

-- the client of one was heard before that of the other, if the other has one
abbrev pub is_longer_silent : Slot → Slot → Bool
is_longer_silent one other = has_client one && (not (has_client other) || nat_lt one.heard other.heard)

-- the client of this slot was heard before those of all others that have one session, and is the first of those
pub record IsSilentLongest (slots : List Slot) (at : ℕ) : Type 0 where
  pub one : sessions_at slots at ≡ 1
  pub longest : (other : ℕ) → other < 32 → sessions_at slots other ≡ 1 → heard_at slots at ≤ heard_at slots other
  pub first : (other : ℕ) → other < at → sessions_at slots other ≡ 1 → heard_at slots at < heard_at slots other

-- its client is closed for another at that second: it has been silent longest, for so many seconds, which are more than ten
pub record GivesWay (now : ℕ) (slots : List Slot) (at silent : ℕ) : Type 0 where
  pub longest : IsSilentLongest slots at
  pub seconds : silent ≡ now - heard_at slots at
  pub long : 10 < silent

-- each client was heard in the last ten seconds, or is being closed
abbrev pub NoneGivesWay : ℕ → List Slot → Type 0
NoneGivesWay now slots = (at : ℕ) → at < 32 → sessions_at slots at ≡ 1 → now - heard_at slots at ≤ 10

-- no slot is free
abbrev pub AreTaken : List Slot → Type 0
AreTaken slots = position_from is_free 0 slots ≡ None

-- the slot that a client is given which comes at that second
abbrev pub GivesSlot : ℕ → List Slot → Option GivenSlot → Type 0
GivesSlot now slots (Some (Free at)) = position_from is_free 0 slots ≡ Some at
GivesSlot now slots (Some (InPlaceOf at silent)) = AreTaken slots × GivesWay now slots at silent
GivesSlot now slots None = AreTaken slots × NoneGivesWay now slots

-- the number of the slot that was given
abbrev pub slot_of : GivenSlot → ℕ
slot_of (Free at) = at
slot_of (InPlaceOf at silent) = at

-- a session of it begins, at that second
abbrev pub has_come : List Slot → ℕ → ℕ → List Slot
has_come slots at now = slice_set slots at (record { sessions = sessions_at slots at + 1; heard = now })

-- its client is heard, at that second
abbrev pub is_heard : List Slot → ℕ → ℕ → List Slot
is_heard slots at now = if nat_lt at 32 then slice_set slots at (record { sessions = sessions_at slots at; heard = now }) else slots

-- a session of it has ended
abbrev pub has_left : List Slot → ℕ → List Slot
has_left slots at = if nat_lt at 32 then slice_set slots at (record {
  sessions = sessions_at slots at - 1;
  heard = heard_at slots at;
}) else slots
