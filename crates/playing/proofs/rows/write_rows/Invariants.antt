use Rattle.std.proofs.Common.{ℕ, ◌≡◌, ◌+◌, ◌++◌, List, drop}
use Rattle.std.specs.Io.KnownBytes.{Appends}
use Rattle.playing.specs.Rows.{rows_from, rows_text}
use Rattle.playing.proofs.rows.write_rows.Given as goal

-- what is written so far, and the rows of the events that are left, are the whole
abbrev pub invariant-loop-index : goal.invariant-loop-index
invariant-loop-index g l =
    (written : List ℕ) × Appends (g.W.Write.contents l.initial.output) (g.W.Write.contents l.output) written
    × (written ++ rows_from l.left (l.index + 1) (drop l.index l.events) (drop l.index l.marks) (drop l.index l.saved)
    ≡ rows_text l.events l.outcome.marks.items l.outcome.saved.items)
