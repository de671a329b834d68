-- The lines of `hear`: a sender, one space, and a piece of the sender's stream in hexadecimal digits.
use Rattle.std.specs.Prelude.{ℕ, ◌≡◌, ◌<◌, List, ◌∷◌, ◌++◌}
use Rattle.numerals.specs.Numbers.{IsNumber, IsHexOf}

-- the digits are decimal digits alone, at least one, and write the number of a member
pub record IsMemberBelow (n : ℕ) (digits : List ℕ) (member : ℕ) : Type 0 where
  pub number : IsNumber digits member
  pub below : member < n

-- the line says that this piece, which isn't empty, came from the sender
pub record IsPiece (n : ℕ) (line : List ℕ) (sender : ℕ) (piece : List ℕ) : Type 0 where
  pub digits : List ℕ
  pub hexes : List ℕ
  pub whole : line ≡ digits ++ 32 ∷ hexes
  pub member : IsMemberBelow n digits sender
  pub bytes : IsHexOf hexes piece

-- the line says no such thing
abbrev pub IsNoPiece : ℕ → List ℕ → Type 0
IsNoPiece n line = (sender : ℕ) (piece : List ℕ) → IsPiece n line sender piece → ⊥
