-- The rows of a run's events.
use Rattle.std.specs.Prelude.{ℕ, zero, suc, ◌+◌, List, [], ◌∷◌, ◌++◌, codes}
use Rattle.std.specs.Global.{Vec}
use Rattle.std.specs.Fmt.{decimal}
use Rattle.terms_prelude.specs.Terms.{Record}
use Rattle.sim.specs.declared.events.Event.{Event}
use Rattle.sim.specs.declared.events.Mark.{Mark}
use Rattle.sim.specs.declared.events.Mark.TheVariants.{Done, Failed, Skipped}
use Rattle.sim.specs.Texts.{event_text}
use Rattle.playing.specs.declared.rows.TheConstants.{MOST_ROWS}
use Rattle.playing.specs.Codes.{records_json}

-- a disk failed in the event
abbrev pub failed_text : Mark → List ℕ
failed_text Done = []
failed_text Failed = codes ",\"failed\""
failed_text (Skipped reason) = []

-- the row of the event of that number, after the row before
abbrev pub row_text : ℕ → Event → Mark → List Record → List ℕ
row_text number event mark saved =
    codes ",\n[" ++ (decimal number ++ (codes ",\"" ++ (event_text event ++ (codes "\",[" ++ (records_json saved ++ (codes "]" ++ (failed_text mark ++ codes "]")))))))

-- so many rows are left after the event
abbrev pub left_after : ℕ → Mark → ℕ
left_after left (Skipped reason) = left
left_after zero Done = zero
left_after zero Failed = zero
left_after (suc left) Done = left
left_after (suc left) Failed = left

-- the event's row, if it wasn't skipped and one is left
abbrev pub row_if : ℕ → ℕ → Event → Mark → List Record → List ℕ
row_if left number event (Skipped reason) saved = []
row_if zero number event Done saved = []
row_if zero number event Failed saved = []
row_if (suc left) number event Done saved = row_text number event Done saved
row_if (suc left) number event Failed saved = row_text number event Failed saved

-- the rows of the events, the first of which has that number, so many at most, as far as the shortest of the lists goes
abbrev pub rows_from : ℕ → ℕ → List Event → List Mark → List (Vec Record) → List ℕ
rows_from left number [] marks saved = []
rows_from left number (event ∷ events) [] saved = []
rows_from left number (event ∷ events) (mark ∷ marks) [] = []
rows_from left number (event ∷ events) (mark ∷ marks) (records ∷ saved) =
    row_if left number event mark records.items ++ rows_from (left_after left mark) (number + 1) events marks saved

-- the rows of a run, numbered from 1
abbrev pub rows_text : List Event → List Mark → List (Vec Record) → List ℕ
rows_text events marks saved = rows_from MOST_ROWS 1 events marks saved
