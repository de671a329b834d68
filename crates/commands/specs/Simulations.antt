-- What `simulate` prints.
use Rattle.std.specs.Prelude.{ℕ, ◌+◌, Bool, List, [], ◌∷◌, ◌++◌, codes, length}
use Rattle.std.specs.List.{flat_map}
use Rattle.std.specs.Fmt.{decimal}
use Rattle.sim.specs.declared.cluster.Outcome.{Outcome}
use Rattle.sim.specs.declared.events.Mark.{Mark}
use Rattle.numerals.specs.Sentences.{sentence, bit_digit}
use Rattle.numerals.specs.Lines.{line}
use Rattle.report.specs.Traces.{is_skipped}

-- how many events were skipped
abbrev pub skipped : List Mark → ℕ
skipped [] = 0
skipped (mark ∷ marks) = bit_digit (is_skipped mark) + skipped marks

-- the line of a verdict: its member, question, round and bit
abbrev pub verdict_line : ℕ × ℕ × ℕ × Bool → List ℕ
verdict_line v =
    line (sentence (codes "member" ∷ decimal v.0 ∷ codes "question" ∷ decimal v.1 ∷ codes "round" ∷ decimal v.2
    ∷ codes "bit" ∷ decimal (bit_digit v.3) ∷ []))

-- the line of so many events, of which so many were skipped
abbrev pub line_of_counts : ℕ → ℕ → List ℕ
line_of_counts events skipped = line (sentence (codes "events" ∷ decimal events ∷ codes "skipped" ∷ decimal skipped ∷ []))

-- the line that counts the events
abbrev pub count_line : List Mark → List ℕ
count_line marks = line_of_counts (length marks) (skipped marks)

-- the lines of the verdicts, and that of the events
abbrev pub simulation_text : Outcome → List ℕ
simulation_text outcome = flat_map verdict_line outcome.verdicts.items ++ count_line outcome.marks.items
