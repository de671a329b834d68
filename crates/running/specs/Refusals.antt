-- Refusals that are kept, and what is told of them.
use Rattle.std.specs.Prelude.{ℕ, zero, suc, ◌≡◌, ◌≢◌, ◌+◌, ◌-◌, ◌^◌, Bool, true, false, ◌||◌, ◌&&◌, ◌==◌, nat_le, nat_lt, if◌then◌else◌, List, [], ◌++◌, length, Option, Some, None, map, replicate, slice_index_or, slice_set}
use Rattle.std.specs.List.{IsFirstBest, sum_by}
use Rattle.std.specs.Option.{option_to_list}
use Rattle.running.specs.declared.callers.Caller.{Caller}
use Rattle.running.specs.declared.refusals.Refusal.{Refusal}
use Rattle.running.specs.declared.refusals.RefusalCount.{RefusalCount}
use Rattle.running.specs.declared.refusals.KeptRefusal.{KeptRefusal}
use Rattle.running.specs.declared.events.LogEvent.{LogEvent}
use Rattle.running.specs.declared.events.LogEvent.TheVariants.{Refused}

-- at each place a refusal that is kept, or none
abbrev pub Table : Type 0
Table = List (Option KeptRefusal)

abbrev pub empty : Table
empty = replicate 256 None

-- what is kept at a place
abbrev pub place_at : Table → ℕ → Option KeptRefusal
place_at table at = slice_index_or table at None

abbrev pub KeepsAt : Table → ℕ → KeptRefusal → Type 0
KeepsAt table at kept = place_at table at ≡ Some kept

-- no place has this refusal
abbrev pub Lacks : Table → Refusal → Type 0
Lacks table refusal = (at : ℕ) (kept : KeptRefusal) → KeepsAt table at kept → kept.refusal ≢ refusal

-- no two places have the same refusal
abbrev pub AreApart : Table → Type 0
AreApart table = (at other : ℕ) (kept twin : KeptRefusal) → KeepsAt table at kept → KeepsAt table other twin
    → kept.refusal ≡ twin.refusal → at ≡ other

-- there are 256 places, and no two have the same refusal
pub record IsTable (table : Table) : Type 0 where
  pub count : length table ≡ 256
  pub apart : AreApart table

-- a minute has passed since its last line, or as many are held back as can be counted
abbrev pub is_due : ℕ → KeptRefusal → Bool
is_due now kept = nat_le 60 (now - kept.told) || (kept.held == 2 ^ 32 - 1)

-- the second behind that of its last line; 0 at a free place
abbrev pub since : Option KeptRefusal → ℕ
since None = 0
since (Some kept) = suc kept.told

-- the last line of one is older than that of the other, or its place is free
abbrev pub is_older : Option KeptRefusal → Option KeptRefusal → Bool
is_older one other = nat_lt (since one) (since other)

-- no last line is older than that at this place
abbrev pub IsOldest : Table → ℕ → Type 0
IsOldest table at = IsFirstBest is_older table 256 at

-- how often it came since its last line
abbrev pub held_at : Option KeptRefusal → ℕ
held_at None = 0
held_at (Some kept) = kept.held

abbrev pub held : Table → ℕ
held table = sum_by held_at table

-- how often lines say that it came
abbrev pub counted : Option RefusalCount → ℕ
counted None = 0
counted (Some line) = line.count

abbrev pub counted_by : List RefusalCount → ℕ
counted_by lines = sum_by (λ line. line.count) lines

-- what is left to tell of what is kept
abbrev pub left_of : Option KeptRefusal → Option RefusalCount
left_of None = None
left_of (Some kept) = if kept.held == 0 then None
    else Some (record { refusal = kept.refusal; caller = kept.caller; count = kept.held })

-- what is due of it at that second
abbrev pub due_of : ℕ → Option KeptRefusal → Option RefusalCount
due_of now None = None
due_of now (Some kept) = if is_due now kept then left_of (Some kept) else None

-- what is kept then
abbrev pub after_due : ℕ → Option KeptRefusal → Option KeptRefusal
after_due now None = None
after_due now (Some kept) = if is_due now kept && nat_lt 0 kept.held then Some (record kept { held = 0; told = now }) else Some kept

-- all that is due at the first places
abbrev pub dues_below : ℕ → Table → ℕ → List RefusalCount
dues_below now table zero = []
dues_below now table (suc k) = dues_below now table k ++ option_to_list (due_of now (place_at table k))

abbrev pub dues : ℕ → Table → List RefusalCount
dues now table = dues_below now table (length table)

-- the events of these lines
abbrev pub events_of : List RefusalCount → List LogEvent
events_of lines = map Refused lines

-- A refusal came at that second. What is told is first what is left of the one that gave its place, and then a line of this one.
pub record IsNoted (now : ℕ) (refusal : Refusal) (caller : Option Caller) (old new : Table) (left line : Option RefusalCount) : Type 0 where
  -- the first of its kind is told at once
  pub first : Lacks old refusal → line ≡ Some (record { refusal = refusal; caller = caller; count = 1 })
  -- it takes the place of the one whose last line is the oldest, and what is left of that one is told
  pub oldest : Lacks old refusal → (at : ℕ) × IsOldest old at × (left ≡ left_of (place_at old at))
      × (new ≡ slice_set old at (Some (record { refusal = refusal; caller = caller; held = 0; told = now })))
  -- within a minute of its last line it is counted, and nothing is told
  pub soon : (at : ℕ) (kept : KeptRefusal) → KeepsAt old at kept → kept.refusal ≡ refusal → is_due now kept ≡ false
      → (left ≡ None) × (line ≡ None) × (new ≡ slice_set old at (Some (record kept { caller = caller; held = kept.held + 1 })))
  -- after that it is told with the count of those since
  pub due : (at : ℕ) (kept : KeptRefusal) → KeepsAt old at kept → kept.refusal ≡ refusal → is_due now kept ≡ true
      → (left ≡ None) × (line ≡ Some (record { refusal = refusal; caller = caller; count = kept.held + 1 }))
      × (new ≡ slice_set old at (Some (record kept { caller = caller; held = 0; told = now })))
  -- no count is lost
  pub counts : held new + (counted left + counted line) ≡ held old + 1
