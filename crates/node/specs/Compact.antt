-- An entry of a history in fifteen bytes.
use Rattle.std.specs.Prelude.{ℕ, ◌≡◌, ◌/◌, ◌%◌, ◌==◌, Bool, false, List, [], ◌∷◌, ◌++◌, get_or, if◌then◌else◌}
use Rattle.std.specs.Int.{w16, w64, to_be_bytes, from_be_bytes}
use Rattle.terms_prelude.specs.Terms.{Kind, Value, Place, Statement, IsPlace, FitsStep, new_place, new_statement}
use Rattle.statement_codec.specs.Statements.{kind_from, value_from}
use Rattle.questions.specs.Replay.{Entry}
use Rattle.questions.specs.Replay.Entry.{Heard, Proposed}

-- the fifteen bytes: a tag, the sender, the place with its question first, in two bytes, and the toss
abbrev pub packed : ℕ → ℕ → Place → ℕ → List ℕ
packed tag from place toss = tag ∷ from ∷ (to_be_bytes w16 place.question ++ place.origin ∷ place.round ∷ place.step ∷ to_be_bytes w64 toss)

-- the kind that a statement's tag has, and the value
abbrev pub kind_in : ℕ → Kind
kind_in tag = kind_from (tag % 4)

abbrev pub value_in : ℕ → Value
value_in tag = value_from (tag / 4)

-- what of an entry stands in its bytes
abbrev pub question_in : List ℕ → ℕ
question_in bytes = from_be_bytes w16 (get_or bytes 2 0 ∷ get_or bytes 3 0 ∷ [])

abbrev pub place_in : List ℕ → Place
place_in bytes = new_place (question_in bytes) (get_or bytes 4 0) (get_or bytes 5 0) (get_or bytes 6 0)

abbrev pub statement_in : List ℕ → Statement
statement_in bytes = new_statement (kind_in (get_or bytes 0 0)) (place_in bytes) (value_in (get_or bytes 0 0))

abbrev pub toss_in : List ℕ → ℕ
toss_in bytes =
    from_be_bytes w64
    (get_or bytes 7 0 ∷ get_or bytes 8 0 ∷ get_or bytes 9 0 ∷ get_or bytes 10 0 ∷ get_or bytes 11 0 ∷ get_or bytes 12 0 ∷ get_or bytes 13 0 ∷ get_or bytes 14 0 ∷ [])

-- a tag in which there is no kind is a proposal's
abbrev pub is_proposed : List ℕ → Bool
is_proposed bytes = (get_or bytes 0 0 % 4) == 0

-- the entry that fifteen bytes keep
abbrev pub kept_in : List ℕ → Entry
kept_in bytes =
    if is_proposed bytes then Proposed (question_in bytes) (get_or bytes 0 0 == 4) (toss_in bytes)
    else Heard (get_or bytes 1 0) (statement_in bytes) (toss_in bytes)

-- the bytes keep an entry: what is no proposal has a place, and a value that fits its step
abbrev pub IsKeptIn : List ℕ → Type 0
IsKeptIn bytes = is_proposed bytes ≡ false → IsPlace (place_in bytes) × FitsStep (get_or bytes 6 0) (value_in (get_or bytes 0 0))
