-- What ends the reading of a transcript behind its first line.
use Rattle.std.specs.Prelude.{ℕ, ◌≡◌, ◌+◌, ◌<◌, ◌≤◌, ◌⊎◌, List, [], ◌∷◌, ◌++◌, length, map}
use Rattle.std.specs.List.{All}
use Rattle.terms_prelude.specs.Terms.{Statement, Size}
use Rattle.numerals.specs.Lines.{lines_of}
use Rattle.transcripts.specs.Lines.{pair_line}
use Rattle.transcripts.specs.Reading.{FitsPair}

-- this line is of no sender and statement
abbrev pub IsNoPair : Size → List ℕ → Type 0
IsNoPair size line = (pair : ℕ × Statement) → FitsPair size pair → line ≡ pair_line pair → ⊥

-- the lines behind so many good ones: none, though some are missing; or one too many, or one that isn't one
abbrev pub IsBadRest : Size → ℕ → ℕ → List (List ℕ) → Type 0
IsBadRest size count read [] = read < count
IsBadRest size count read (line ∷ others) = (read ≡ count) ⊎ IsNoPair size line

-- Behind the first line these lines are good, and then one is bad or missing; the first of them is line 2.
pub record EndsAt (size : Size) (count : ℕ) (text : List ℕ) (number : ℕ) : Type 0 where
  pub good : List (ℕ × Statement)
  pub others : List (List ℕ)
  pub lines : lines_of text ≡ map pair_line good ++ others
  pub fits : All (FitsPair size) good
  pub few : length good ≤ count
  pub bad : IsBadRest size count (length good) others
  pub number_is : number ≡ length good + 2
