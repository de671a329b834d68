-- What a text of lines says.
use Rattle.std.specs.Prelude.{ℕ, ◌≡◌, ◌==◌, ◌+◌, ◌<◌, ◌^◌, Bool, List, [], ◌∷◌, ◌++◌, length}
use Rattle.std.specs.List.{All}
use Rattle.terms_prelude.specs.Terms.{Statement, Size, IsWellFormed}
use Rattle.numerals.specs.Lines.{lines_of}
use Rattle.transcripts.specs.Lines.{transcript_lines}

-- a byte that ends a line
abbrev pub is_end : ℕ → Bool
is_end byte = byte == 10

-- the sender is a member, and the statement is one of a cluster of that size
abbrev pub FitsPair : Size → ℕ × Statement → Type 0
FitsPair size e = (e.0 < size.n) × IsWellFormed size e.1

-- what a transcript says: the question, the bit that it was decided for, and the senders with their statements
pub record Shown : Type 0 where
  pub question : ℕ
  pub bit : Bool
  pub pairs : List (ℕ × Statement)

-- it is of a cluster of that size, and its count is a number of 64 bits
pub record FitsSize (size : Size) (shown : Shown) : Type 0 where
  pub asked : shown.question < size.questions
  pub counted : length shown.pairs < 2 ^ 64
  pub each : All (FitsPair size) shown.pairs

abbrev pub lines_shown : Shown → List (List ℕ)
lines_shown shown = transcript_lines shown.question shown.bit shown.pairs

-- the text is this transcript
pub record Reads (size : Size) (text : List ℕ) (shown : Shown) : Type 0 where
  pub fits : FitsSize size shown
  pub lines : lines_of text ≡ lines_shown shown

-- the lines begin a transcript
pub record Begins (size : Size) (lines : List (List ℕ)) : Type 0 where
  pub shown : Shown
  pub fits : FitsSize size shown
  pub more : List (List ℕ)
  pub whole : lines_shown shown ≡ lines ++ more

-- the lines are no transcript
abbrev pub IsNone : Size → List (List ℕ) → Type 0
IsNone size lines = (shown : Shown) → FitsSize size shown → lines_shown shown ≡ lines → ⊥

-- behind these lines no line is left, though they are no transcript; or the next one begins none with them
abbrev pub IsBadNext : Size → List (List ℕ) → List (List ℕ) → Type 0
IsBadNext size good [] = IsNone size good
IsBadNext size good (line ∷ others) = Begins size (good ++ line ∷ []) → ⊥

-- the first line, counted from 1, that is missing or with which the lines no longer begin a transcript
pub record IsBadAt (size : Size) (text : List ℕ) (number : ℕ) : Type 0 where
  pub good : List (List ℕ)
  pub others : List (List ℕ)
  pub lines : lines_of text ≡ good ++ others
  pub begins : Begins size good
  pub bad : IsBadNext size good others
  pub counted : number ≡ length good + 1
