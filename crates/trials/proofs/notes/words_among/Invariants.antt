use Rattle.std.proofs.Common.{◌≡◌, ◌++◌, drop}
use Rattle.std.specs.List.{filter}
use Rattle.numerals.specs.Sentences.{texts}
use Rattle.trials.specs.Notes.{is_some}
use Rattle.trials.proofs.notes.words_among.Given as goal

-- the words so far, and those of the pieces that are left
abbrev pub invariant-loop-piece : goal.invariant-loop-piece
invariant-loop-piece l =
    texts l.words.items ++ filter is_some (texts (drop l.piece-index l.pieces)) ≡ filter is_some (texts l.pieces)
