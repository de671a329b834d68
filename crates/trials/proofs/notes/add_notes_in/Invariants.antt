use Rattle.std.proofs.Common.{◌≡◌, ◌++◌, drop}
use Rattle.numerals.specs.Sentences.{texts}
use Rattle.trials.specs.Notes.{notes_in}
use Rattle.trials.proofs.notes.add_notes_in.Given as goal

-- the notes so far, and those of the words that are left
abbrev pub invariant-loop-place : goal.invariant-loop-place
invariant-loop-place l =
    l.notes.items ++ notes_in l.member (texts (drop l.place l.words))
    ≡ l.initial.notes.items ++ notes_in l.member (texts l.words)
