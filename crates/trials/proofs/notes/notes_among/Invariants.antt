use Rattle.std.proofs.Common.{◌≡◌, ◌++◌, drop}
use Rattle.std.specs.List.{flat_map}
use Rattle.numerals.specs.Sentences.{texts}
use Rattle.trials.specs.Notes.{line_notes}
use Rattle.trials.proofs.notes.notes_among.Given as goal

-- the notes so far, and those of the lines that are left
abbrev pub invariant-loop-line : goal.invariant-loop-line
invariant-loop-line l =
    l.notes.items ++ flat_map line_notes (texts (drop l.line-index l.lines)) ≡ flat_map line_notes (texts l.lines)
