-- Where in a text a fault is.
use Rattle.std.specs.Prelude.{ℕ, ◌≡◌, ◌⊎◌, ◌==◌, ◌-◌, ◌<◌, ◌≤◌, List, [], ◌∷◌, suc, length, take, drop, slice_get, IsSomeAnd, Bool, false, if◌then◌else◌, Option, Some, None}
use Rattle.std.specs.List.{AllByRecursion, slice_split}
pub use Rattle.numerals.specs.Sentences.{texts}

-- what stands before, between and behind the bytes 10
abbrev pub lines_in : List ℕ → List (List ℕ)
lines_in text = slice_split (λ byte. byte == 10) text

-- the number, counted from 1, of the line of the text in which one of its bytes stands, or its end
abbrev pub IsLineIn : List ℕ → ℕ → Type 0
IsLineIn text number = (place : ℕ) × (place ≤ length text) × (number ≡ length (lines_in (take place text)))

-- none of the lines is such
abbrev pub NoLine : (List ℕ → Type 0) → List (List ℕ) → Type 0
NoLine Is = AllByRecursion (λ line. Is line → ⊥)

-- the number, counted from 1, of the first line that is such, or none where none is
abbrev pub IsFirstLine : (List ℕ → Type 0) → List (List ℕ) → Option ℕ → Type 0
IsFirstLine Is lines None = NoLine Is lines
IsFirstLine Is lines (Some number) = (1 ≤ number) × NoLine Is (take (number - 1) lines) × IsSomeAnd (slice_get lines (number - 1)) Is

-- a blank or `=`
abbrev pub EndsKey : ℕ → Type 0
EndsKey byte = (byte ≡ 32) ⊎ (byte ≡ 61)

-- the line begins with the name, and a blank or `=` behind it
abbrev pub SaysKey : List ℕ → List ℕ → Type 0
SaysKey name line = (take (length name) line ≡ name) × IsSomeAnd (slice_get line (length name)) EndsKey

-- the line begins with `[`
abbrev pub is_head : List ℕ → Bool
is_head [] = false
is_head (byte ∷ line) = byte == 91

-- how many lines stand above the first at which a table begins: all, if none does
abbrev pub above_table : List (List ℕ) → ℕ
above_table [] = 0
above_table (line ∷ lines) = if is_head line then 0 else suc (above_table lines)

-- the number, counted from 1, of the first line that is such below so many, or none where none of these is
abbrev pub IsFirstBelow : (above : ℕ) → (List ℕ → Type 0) → List (List ℕ) → Option ℕ → Type 0
IsFirstBelow above Is lines None = NoLine Is (drop above lines)
IsFirstBelow above Is lines (Some number) =
    (above < number) × NoLine Is (take (number - 1 - above) (drop above lines)) × IsSomeAnd (slice_get lines (number - 1)) Is
