-- What the judge reads of a trace.
use Rattle.std.specs.Prelude.{ℕ, ◌==◌, ◌||◌, ◌&&◌, Bool, true, false, if◌then◌else◌, Option, Some, None, List, [], ◌∷◌, ◌++◌, slice_get, unwrap_or, codes}
use Rattle.std.specs.List.{slice_split, flat_map, filter}
use Rattle.std.specs.Str.{bytes_eq}

-- a proposal or a decision, as the words of the trace
pub record NoteFields : Type 0 where
  pub is_decision : Bool
  pub member : List ℕ
  pub question : List ℕ
  pub bit : List ℕ

-- the byte stands between two words: a blank, a comma or a colon
abbrev pub is_mark : ℕ → Bool
is_mark byte = (byte == 32) || ((byte == 44) || (byte == 58))

-- a word is no empty text
abbrev pub is_some : List ℕ → Bool
is_some [] = false
is_some (byte ∷ bytes) = true

-- the words of a line
abbrev pub words_of : List ℕ → List (List ℕ)
words_of line = filter is_some (slice_split is_mark line)

-- the word of that place, or an empty one
abbrev pub word_at : List (List ℕ) → ℕ → List ℕ
word_at words place = unwrap_or (slice_get words place) []

-- the event names its member first
abbrev pub is_own : List ℕ → Bool
is_own event = bytes_eq event (codes "propose") || bytes_eq event (codes "restart")

-- the member whose event the line of these words is about
abbrev pub member_in : List (List ℕ) → List ℕ
member_in words = if is_own (word_at words 1) then word_at words 2 else word_at words 3

-- these words begin with a decision, and with the first Initial of a member, which is its proposal
abbrev pub is_decided : List (List ℕ) → Bool
is_decided words = bytes_eq (word_at words 0) (codes "decided")

abbrev pub is_proposed : List (List ℕ) → Bool
is_proposed words =
    bytes_eq (word_at words 0) (codes "initial")
    && (bytes_eq (word_at words 3) (codes "1") && bytes_eq (word_at words 4) (codes "1"))

-- the note with which these words begin, in a line about this member
abbrev pub note_at : List ℕ → List (List ℕ) → Option NoteFields
note_at member words =
    if is_decided words
    then Some (record { is_decision = true; member = member; question = word_at words 1; bit = word_at words 3 })
    else (if is_proposed words
    then Some (record { is_decision = false; member = word_at words 2; question = word_at words 1; bit = word_at words 5 })
    else None)

-- the note, if there is one
abbrev pub one_of : Option NoteFields → List NoteFields
one_of (Some note) = note ∷ []
one_of None = []

-- the notes in these words of a line about this member
abbrev pub notes_in : List ℕ → List (List ℕ) → List NoteFields
notes_in member [] = []
notes_in member (word ∷ words) = one_of (note_at member (word ∷ words)) ++ notes_in member words

-- the notes of a line
abbrev pub line_notes : List ℕ → List NoteFields
line_notes line = notes_in (member_in (words_of line)) (words_of line)

-- the notes of a trace
abbrev pub notes_of : List ℕ → List NoteFields
notes_of trace = flat_map line_notes (slice_split (λ byte. byte == 10) trace)
