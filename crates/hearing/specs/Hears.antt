-- What `hear` writes for what it reads.
use Rattle.std.specs.Prelude.{ℕ, ◌≡◌, ◌+◌, Option, Some, None, List, [], ◌∷◌, ◌++◌, length}
use Rattle.std.specs.Prelude.{IfSome}
use Rattle.std.specs.Io.KnownBytes.{Appends}
use Rattle.terms_prelude.specs.Terms.{Size}
use Rattle.hearing.specs.Pieces.{IsNoPiece}
use Rattle.numerals.specs.Lines.{lines_of}
use Rattle.hearing.specs.InTurn.{InTurn}
use Rattle.hearing.specs.Replies.{Hearing, no_hearing, AnswersInput}

-- the lines after these are none, or the first of them is no piece and has the number of the bad line
abbrev pub StopsAt : Size → List (List ℕ) → Option ℕ → List (List ℕ) → Type 0
StopsAt size good None others = others ≡ []
StopsAt size good (Some number) [] = ⊥
StopsAt size good (Some number) (line ∷ lines) = IsNoPiece size.n line × (number ≡ length good + 1)

-- the lines of the input are answered by the text: all of them, or those before the first that is no piece, and then
-- the bad line is named by its number, counted from 1
pub record Hears (size : Size) (me : ℕ) (input : List ℕ) (bad : Option ℕ) (text : List ℕ) : Type 0 where
  pub good : List (List ℕ)
  pub others : List (List ℕ)
  pub after : Hearing
  pub lines : lines_of input ≡ good ++ others
  pub answered : InTurn (AnswersInput size) (no_hearing size me) good after text
  pub stops : StopsAt size good bad others

-- where the input is known and the output tells what it holds, the output grows by such an answer and nothing else
abbrev pub WritesReplies : Size → ℕ → Option (List ℕ) → Option ℕ → Option (List ℕ) → Option (List ℕ) → Type 0
WritesReplies size me input bad old new =
    IfSome input (λ bytes. (text : List ℕ) × Hears size me bytes bad text × Appends old new text)
