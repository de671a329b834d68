-- A question that comes under way.
use Rattle.std.specs.Prelude.{ℕ, ◌≡◌, [], ◌∷◌}
use Rattle.gateway.specs.declared.events.Event.TheVariants as event
use Rattle.gateway.specs.declared.standings.Stage.{Stage}
use Rattle.gateway.specs.declared.standings.Stage.TheVariants as stage
use Rattle.portal.specs.declared.book.Book.{Book}
use Rattle.portal.specs.declared.notes.Note.{Note}
use Rattle.portal.specs.Books.{book_note}
use Rattle.portal.specs.Notes.{ShareAPlace}
use Rattle.portal.specs.Tellings.{AreTold}

-- nothing is known of the question but what t members at most told
abbrev pub IsUnproposed : Book → ℕ → Type 0
IsUnproposed book question = (book_note book question).stage ≡ stage.Unproposed

-- the note of a question that is under way
abbrev pub begun : Note → Note
begun note = record note { stage = stage.Proposed }

-- the question comes under way: its note says so, and followers are told. The notes of the others and all else stay
pub record Begins (old : Book) (question : ℕ) (new : Book) : Type 0 where
  pub note : book_note new question ≡ begun (book_note old question)
  pub others : (other : ℕ) → (ShareAPlace old.notes.ring.items question other → ⊥) → book_note new other ≡ book_note old other
  pub told : AreTold (event.Proposed question ∷ []) old new
  pub rest : new ≡ record old { notes = new.notes; events = new.events; before = new.before }
