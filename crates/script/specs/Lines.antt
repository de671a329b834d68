-- Which lines of a text say something.
use Rattle.std.specs.Prelude.{ℕ, ◌+◌, ◌≡◌, ◌==◌, Bool, true, if◌then◌else◌, Option, Some, None, List, [], ◌∷◌, length, slice_get}
use Rattle.numerals.specs.Lines.{lines_of}
use Rattle.script.specs.LineWords.{words_of}

-- an empty line is skipped, and one that begins with `#`
abbrev pub is_comment : List ℕ → Bool
is_comment [] = true
is_comment (byte ∷ bytes) = byte == 35

-- the lines that aren't skipped, each with its number among all lines, the first of which has this one
abbrev pub said_from : ℕ → List (List ℕ) → List (ℕ × List ℕ)
said_from number [] = []
said_from number (line ∷ lines) =
    if is_comment line then said_from (number + 1) lines else (number, line) ∷ said_from (number + 1) lines

-- what is read of a text: the lines that aren't skipped, with their numbers, and the number behind the last line
pub record Page : Type 0 where
  pub said : List (ℕ × List ℕ)
  pub next : ℕ

-- the page of a text, whose first line has the number 1
abbrev pub page_from : List ℕ → Page
page_from text = record { said = said_from 1 (lines_of text); next = length (lines_of text) + 1 }

-- the number of a line if there is one, or else this
abbrev pub number_or : ℕ → Option (ℕ × List ℕ) → ℕ
number_or next (Some line) = line.0
number_or next None = next

-- the number of the line at that place of those that aren't skipped, or that behind the last line
abbrev pub line_number : Page → ℕ → ℕ
line_number page place = number_or page.next (slice_get page.said place)

-- the line at that place of those that aren't skipped is there, and its words are of this form
pub record HasLine {A : Type 0} (page : Page) (place : ℕ) (Form : List (List ℕ) → A → Type 0) (x : A) : Type 0 where
  pub line : ℕ × List ℕ
  pub there : slice_get page.said place ≡ Some line
  pub form : Form (words_of line.1) x
