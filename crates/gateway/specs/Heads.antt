-- The slots to which members have come, and how far a window moves with them.
use Rattle.std.specs.Prelude.{ℕ, ◌<◌, ◌≤◌, ◌+◌, ◌-◌, ◌*◌, List, get_or, if◌then◌else◌, nat_le, nat_lt, slice_set}
use Rattle.std.specs.List.{count_by}

-- the members' slots, once the member has come to this one: it never goes back
abbrev pub moved_heads : List ℕ → ℕ → ℕ → List ℕ
moved_heads heads member slot = if nat_lt (get_or heads member slot) slot then slice_set heads member slot else heads

-- how many members have come to the slot
abbrev pub count_at : List ℕ → ℕ → ℕ
count_at heads slot = count_by (λ head. nat_le slot head) heads

-- the greatest slot to which more than t members have come; 0 where there is none
pub record IsCommonHead (t : ℕ) (heads : List ℕ) (head : ℕ) : Type 0 where
  pub reached : 0 < head → t < count_at heads head
  pub greatest : (slot : ℕ) → t < count_at heads slot → slot ≤ head

-- the first slot of a window of four quarters: once that slot is past the third, it is the first of the third
abbrev pub next_first : ℕ → ℕ → ℕ → ℕ
next_first first quarter head = if nat_le (first + 3 * quarter) head then head - 2 * quarter else first
