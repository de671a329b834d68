-- Notes on questions, in a ring: a question has the place of the one that is a window before it.
use Rattle.std.specs.Prelude.{ℕ, ◌≡◌, ◌==◌, ◌%◌, false, Option, None, Some, List, if◌then◌else◌, length, slice_get}
use Rattle.gateway.specs.declared.standings.Stage.TheVariants as stage
use Rattle.portal.specs.declared.notes.Note.{Note}

-- the note on a question of which nothing is known
abbrev pub new_note : ℕ → Note
new_note question = record { question = question; stage = stage.Unproposed; begun = None; is_told = false; spent = 0 }

-- what is kept at a question's place, if it is on that question
abbrev pub note_in : Option Note → ℕ → Note
note_in None question = new_note question
note_in (Some note) question = if note.question == question then note else new_note question

-- the note on a question
abbrev pub note_on : List Note → ℕ → Note
note_on ring question = note_in (slice_get ring (question % length ring)) question

-- two questions have one place
abbrev pub ShareAPlace : List Note → ℕ → ℕ → Type 0
ShareAPlace ring question other = question % length ring ≡ other % length ring
