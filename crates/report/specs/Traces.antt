-- What `simulate --trace` writes.
use Rattle.std.specs.Prelude.{ℕ, ◌+◌, Bool, true, false, List, [], ◌∷◌, ◌++◌, codes}
use Rattle.std.specs.Global.{Vec}
use Rattle.std.specs.List.{flat_map}
use Rattle.std.specs.Fmt.{decimal}
use Rattle.terms_prelude.specs.Terms.{Record}
use Rattle.sim.specs.declared.events.Event.{Event}
use Rattle.sim.specs.declared.events.Mark.{Mark}
use Rattle.sim.specs.declared.events.Mark.TheVariants.{Done, Failed, Skipped}
use Rattle.sim.specs.Texts.{event_text}
use Rattle.numerals.specs.Sentences.{sentence}
use Rattle.sim.specs.declared.events.Reason.TheVariants.{NoSuch, WrongSide, NotUp, Running, Nothing}
use Rattle.report.specs.Records.{record_text}
use Rattle.numerals.specs.Lines.{line}

-- the event was skipped
abbrev pub is_skipped : Mark → Bool
is_skipped Done = false
is_skipped Failed = false
is_skipped (Skipped reason) = true

-- what became of it
abbrev pub mark_text : Mark → List ℕ
mark_text Done = codes "done"
mark_text Failed = codes "failed"
mark_text (Skipped NoSuch) = codes "skipped no-such"
mark_text (Skipped WrongSide) = codes "skipped wrong-side"
mark_text (Skipped NotUp) = codes "skipped not-up"
mark_text (Skipped Running) = codes "skipped running"
mark_text (Skipped Nothing) = codes "skipped nothing"

-- one more record behind others
abbrev pub also_text : Record → List ℕ
also_text r = codes ", " ++ record_text r

-- the records, a comma between each two, or nothing where there are none
abbrev pub saved_text : List Record → List ℕ
saved_text [] = []
saved_text (first ∷ others) = codes ": " ++ (record_text first ++ flat_map also_text others)

-- the line of the event of that number
abbrev pub trace_line : ℕ → Event → Mark → List Record → List ℕ
trace_line number event mark saved =
    line (sentence (decimal number ∷ event_text event ∷ []) ++ (codes ": " ++ (mark_text mark ++ saved_text saved)))

-- the lines of the events, the first of which has that number
abbrev pub trace_from : ℕ → List Event → List Mark → List (Vec Record) → List ℕ
trace_from number [] marks saved = []
trace_from number (event ∷ events) [] saved = []
trace_from number (event ∷ events) (mark ∷ marks) [] = []
trace_from number (event ∷ events) (mark ∷ marks) (records ∷ saved) =
    trace_line number event mark records.items ++ trace_from (number + 1) events marks saved

-- the lines of the events, numbered from 1, as far as the shortest of the lists goes
abbrev pub trace_text : List Event → List Mark → List (Vec Record) → List ℕ
trace_text events marks saved = trace_from 1 events marks saved
