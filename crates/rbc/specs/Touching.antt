-- What the cells of a question say of a spot.
use Rattle.std.specs.Prelude.{ℕ, ◌≡◌, ◌≢◌, ◌<◌, Bool, cond, ◌==◌, List, [], ◌∷◌, get_or, length}
use Rattle.std.specs.List.{list_any}
use Rattle.rbc.specs.declared.rules.Known.{Known}
use Rattle.rbc.specs.declared.table.Cell.{Cell}
use Rattle.rbc.specs.Known.{no_known}

-- what is known of the spot: what its cell says, and else nothing
abbrev pub touched_known : List Cell → ℕ → Known
touched_known [] spot = no_known
touched_known (c ∷ cells) spot = cond (c.spot == spot) c.known (touched_known cells spot)

-- whether it has a cell
abbrev pub touched_made : List Cell → ℕ → Bool
touched_made cells spot = list_any (λ c. c.spot == spot) cells

-- the cell where there is none
abbrev pub no_cell : Cell
no_cell = record { spot = 65535; known = no_known }

-- the spot of the cell of this number
abbrev pub spot_at : List Cell → ℕ → ℕ
spot_at cells number = (get_or cells number no_cell).spot

-- the cell of this number is the spot's
pub record IsAt (cells : List Cell) (number : ℕ) (spot : ℕ) : Type 0 where
  pub within : number < length cells
  pub is : spot_at cells number ≡ spot

-- each cell is of a spot of its own
pub record AreApart (cells : List Cell) : Type 0 where
  pub few : (k : ℕ) → k < length cells → spot_at cells k < 8000
  pub apart : (j k : ℕ) → j < k → k < length cells → spot_at cells j ≢ spot_at cells k

-- the spots of the first cells have their numbers, those alone that are within
abbrev pub AreNamed : List ℕ → List Cell → ℕ → Type 0
AreNamed numbers cells some = (k : ℕ) → k < some → spot_at cells k < length numbers → get_or numbers (spot_at cells k) 0 ≡ k

-- and so have those of all cells
pub record IsTable (numbers : List ℕ) (cells : List Cell) : Type 0 where
  pub apart : AreApart cells
  pub named : AreNamed numbers cells (length cells)
