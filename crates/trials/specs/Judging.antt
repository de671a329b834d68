-- What no run may show.
use Rattle.std.specs.Prelude.{ℕ, ◌==◌, ◌||◌, ◌&&◌, ltb, not, Bool, true, false, if◌then◌else◌, Option, Some, None, List, [], ◌∷◌, codes}
use Rattle.std.specs.List.{list_any, count_by}
use Rattle.std.specs.Str.{bytes_eq}
use Rattle.trials.specs.Notes.{NoteFields}
use Rattle.trials.specs.declared.judging.Finding.{Finding}
use Rattle.trials.specs.declared.judging.Finding.TheVariants.{TwoBits, SecondDecision, Unproposed, Undecided}

-- the words say one bit
abbrev pub is_bit : List ℕ → List ℕ → Bool
is_bit decided proposed =
    (bytes_eq decided (codes "0") && bytes_eq proposed (codes "zero"))
    || (bytes_eq decided (codes "1") && bytes_eq proposed (codes "one"))

-- the other decided another bit on the question of this decision
abbrev pub is_against : NoteFields → NoteFields → Bool
is_against decision other =
    other.is_decision && (bytes_eq other.question decision.question && not (bytes_eq other.bit decision.bit))

-- the other is a decision of the same member on the same question
abbrev pub is_again : NoteFields → NoteFields → Bool
is_again decision other =
    other.is_decision && (bytes_eq other.question decision.question && bytes_eq other.member decision.member)

-- the other proposed the bit of this decision
abbrev pub is_behind : NoteFields → NoteFields → Bool
is_behind decision other =
    not other.is_decision && (bytes_eq other.question decision.question && is_bit decision.bit other.bit)

-- what is wrong with one of these notes, a decision
abbrev pub decision_fault : List NoteFields → NoteFields → Option Finding
decision_fault notes note =
    if list_any (is_against note) notes then Some TwoBits
    else (if ltb 1 (count_by (is_again note) notes) then Some SecondDecision
    else (if list_any (is_behind note) notes then None else Some Unproposed))

abbrev pub fault_of : List NoteFields → NoteFields → Option Finding
fault_of notes note = if note.is_decision then decision_fault notes note else None

abbrev pub or_else : Option Finding → Option Finding → Option Finding
or_else (Some finding) other = Some finding
or_else None other = other

-- what is wrong with the first of the last of all notes with which something is
abbrev pub first_fault : List NoteFields → List NoteFields → Option Finding
first_fault notes [] = None
first_fault notes (note ∷ last) = or_else (fault_of notes note) (first_fault notes last)

-- how many of them are decisions
abbrev pub decisions : List NoteFields → ℕ
decisions notes = count_by (λ note. note.is_decision) notes

-- what is wrong with a run of these notes, which has so many decisions at least
abbrev pub finding_in : List NoteFields → ℕ → Option Finding
finding_in notes least =
    or_else (first_fault notes notes) (if ltb (decisions notes) least then Some Undecided else None)
