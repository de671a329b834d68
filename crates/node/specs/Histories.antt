-- What contracts see of a history that is kept in blocks.
use Rattle.std.specs.Prelude.{ℕ, ◌≡◌, ◌+◌, ◌<◌, ◌^◌, List, [], ◌∷◌, ◌++◌, length}
use Rattle.questions.specs.Replay.{Entry}

-- its entries, in order, and for how many more there is room
pub record HistoryView : Type 0 where
  pub entries : List Entry
  pub room : ℕ

-- the entries of blocks, of one after another
abbrev pub joined : List (List Entry) → List Entry
joined [] = []
joined (block ∷ blocks) = block ++ joined blocks

-- so many entries stand in the blocks before the last one, and with all for which that one was made they are a number
pub record AreCounted (behind : ℕ) (full : List (List Entry)) (capacity : ℕ) : Type 0 where
  pub count : behind ≡ length (joined full)
  pub fits : behind + capacity < 2 ^ 64
