-- The reply to the line that asks for a transcript.
use Rattle.std.specs.Prelude.{ℕ, ◌≡◌, ◌⊎◌, ◌<◌, ◌^◌, Bool, List, ◌++◌, length}
use Rattle.std.specs.List.{All, flat_map}
use Rattle.numerals.specs.Lines.{NoEnd, line}
use Rattle.transcripts.specs.Lines.{head_line}

-- the bytes of the lines, each with the byte 10 at its end
abbrev pub lines_text : List (List ℕ) → List ℕ
lines_text lines = flat_map line lines

-- only characters that a terminal shows as they are
abbrev pub AreShown : List ℕ → Type 0
AreShown line = All (λ (byte : ℕ). (31 < byte) × (byte < 127)) line

-- so many lines, of such characters
pub record AreLines (count : ℕ) (lines : List (List ℕ)) : Type 0 where
  pub counted : length lines ≡ count
  pub no_ends : All NoEnd lines
  pub shown : All AreShown lines

-- the line is the first one of a transcript of so many more
abbrev pub Counts : List ℕ → ℕ → Type 0
Counts first count = (question : ℕ) × (bit : Bool) × (first ≡ head_line question bit count)

-- the line is the first one of no transcript
abbrev pub CountsNone : List ℕ → Type 0
CountsNone first = (question : ℕ) (bit : Bool) (count : ℕ) → question < 2 ^ 16 → count < 2 ^ 64 → first ≡ head_line question bit count → ⊥

-- the first line begins a transcript, and the others are those that it counts; or it is the only one
abbrev pub HasLines : List ℕ → ℕ → ℕ → Type 0
HasLines first others status = (Counts first others × (status ≡ 0)) ⊎ (CountsNone first × (others ≡ 0) × (status ≡ 1))

-- A whole reply: a line and those that it counts. The status is 0 for a transcript, and 1 for any other.
pub record IsTranscriptReply (reply : List ℕ) (status : ℕ) : Type 0 where
  pub first : List ℕ
  pub others : List (List ℕ)
  pub whole : reply ≡ line first ++ lines_text others
  pub first_ends : NoEnd first
  pub others_end : All NoEnd others
  pub others_shown : All AreShown others
  pub counted : HasLines first (length others) status
