-- The beginning of a run's object.
use Rattle.std.specs.Prelude.{ℕ, ◌==◌, ◌+◌, ◌-◌, ◌/◌, ◌%◌, ◌||◌, nat_lt, cond, Bool, true, false, not, List, [], ◌∷◌, ◌++◌, codes, length}
use Rattle.std.specs.List.{count_by, flat_map}
use Rattle.std.specs.Fmt.{decimal}
use Rattle.numerals.specs.Sentences.{bit_digit}
use Rattle.terms_prelude.specs.Terms.{Size}
use Rattle.sim.specs.declared.events.Mark.{Mark}
use Rattle.sim.specs.declared.events.Mark.TheVariants.{Skipped}
use Rattle.sim.specs.declared.events.Reason.{Reason}
use Rattle.sim.specs.declared.events.Reason.TheVariants.{NoSuch, WrongSide, NotUp, Running, Nothing}
use Rattle.playing.specs.declared.rows.TheConstants.{MOST_ROWS}
use Rattle.report.specs.Traces.{is_skipped}

-- the digit of a number below 16
abbrev pub hex_digit : ℕ → ℕ
hex_digit number = cond (nat_lt number 10) (48 + number) (97 + (number - 10))

-- a byte of a text that has another form between quotes: those below 32, the quote, the backslash and `<`
abbrev pub has_form : ℕ → Bool
has_form byte = nat_lt byte 32 || byte == 34 || byte == 92 || byte == 60

-- a byte of a text between quotes
abbrev pub escaped_byte : ℕ → List ℕ
escaped_byte byte = cond (has_form byte) (codes "\\u00" ++ ((48 + byte / 16) ∷ hex_digit (byte % 16) ∷ [])) (byte ∷ [])

-- a text between quotes
abbrev pub escaped : List ℕ → List ℕ
escaped text = flat_map escaped_byte text

-- the format and the name of a run
abbrev pub name_json : List ℕ → List ℕ
name_json name = (codes "{\"format\":\"bracha-run-1\",\"name\":\"" ++ escaped name) ++ codes "\",\n"

-- one more number after others, and numbers with a comma between each two
abbrev pub also_number : ℕ → List ℕ
also_number number = codes "," ++ decimal number

abbrev pub numbers_json : List ℕ → List ℕ
numbers_json [] = []
numbers_json (first ∷ others) = decimal first ++ flat_map also_number others

-- the size of a cluster and its liars
abbrev pub size_json : Size → List ℕ → List ℕ
size_json size liars =
    codes "\"n\":" ++ (decimal size.n ++ (codes ",\"t\":" ++ (decimal size.t ++ (codes ",\"questions\":" ++ (decimal size.questions
    ++ (codes ",\"liars\":[" ++ (numbers_json liars ++ codes "],\n")))))))

-- the event was skipped for this reason
abbrev pub is_for : Reason → Mark → Bool
is_for NoSuch (Skipped NoSuch) = true
is_for WrongSide (Skipped WrongSide) = true
is_for NotUp (Skipped NotUp) = true
is_for Running (Skipped Running) = true
is_for Nothing (Skipped Nothing) = true
is_for reason mark = false

-- how many were, for each reason
abbrev pub skips_json : List Mark → List ℕ
skips_json marks =
    codes "\"no-such\":" ++ (decimal (count_by (is_for NoSuch) marks)
    ++ (codes ",\"wrong-side\":" ++ (decimal (count_by (is_for WrongSide) marks)
    ++ (codes ",\"not-up\":" ++ (decimal (count_by (is_for NotUp) marks)
    ++ (codes ",\"running\":" ++ (decimal (count_by (is_for Running) marks)
    ++ (codes ",\"nothing\":" ++ decimal (count_by (is_for Nothing) marks)))))))))

-- how many events have no row though they weren't skipped
abbrev pub left_out : List Mark → ℕ
left_out marks = count_by (λ mark. not (is_skipped mark)) marks - MOST_ROWS

-- how many events there are, how many have no row, and how many were skipped
abbrev pub counts_json : List Mark → List ℕ
counts_json marks =
    codes "\"total\":" ++ (decimal (length marks) ++ (codes ",\"left_out\":" ++ (decimal (left_out marks)
    ++ (codes ",\"skipped\":{" ++ (skips_json marks ++ codes "},\n")))))

-- the row of a decision: the member, the question, the round and the bit
abbrev pub verdict_row : ℕ × ℕ × ℕ × Bool → List ℕ
verdict_row v =
    codes ",\n[" ++ (decimal v.0 ++ (codes "," ++ (decimal v.1 ++ (codes "," ++ (decimal v.2 ++ (codes ","
    ++ (decimal (bit_digit v.3) ++ codes "]")))))))
