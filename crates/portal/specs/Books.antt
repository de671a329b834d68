-- A gateway's book.
use Rattle.std.specs.Prelude.{ℕ}
use Rattle.portal.specs.declared.book.Book.{Book}
use Rattle.portal.specs.declared.notes.Note.{Note}
use Rattle.portal.specs.Notes.{note_on}

-- the note of a book on a question
abbrev pub book_note : Book → ℕ → Note
book_note book question = note_on book.notes.ring.items question
