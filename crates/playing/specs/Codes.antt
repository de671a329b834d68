-- Statements and records as numbers.
use Rattle.std.specs.Prelude.{ℕ, ◌+◌, ◌*◌, List, [], ◌∷◌, ◌++◌, codes}
use Rattle.std.specs.List.{flat_map}
use Rattle.std.specs.Fmt.{decimal}
use Rattle.numerals.specs.Sentences.{bit_digit}
use Rattle.terms_prelude.specs.Terms.{Kind, Initial, Echo, Ready, Value, Zero, One, SureZero, SureOne, Unsure, Statement, Record, Said, Decided}

-- the number of a kind
abbrev pub kind_digit : Kind → ℕ
kind_digit Initial = 0
kind_digit Echo = 1
kind_digit Ready = 2

-- the number of a value
abbrev pub value_digit : Value → ℕ
value_digit Zero = 0
value_digit One = 1
value_digit SureZero = 2
value_digit SureOne = 3
value_digit Unsure = 4

-- the number of a statement: question, origin (below 64), round (below 64), step (below 4), kind (below 3) and value (below 5)
abbrev pub statement_code : Statement → ℕ
statement_code s =
    ((((s.place.question * 64 + s.place.origin) * 64 + s.place.round) * 4 + s.place.step) * 3 + kind_digit s.kind) * 5 + value_digit s.value

-- a record as a number: that of a statement, and below zero that of a decision
abbrev pub record_json : Record → List ℕ
record_json (Said s) = decimal (statement_code s)
record_json (Decided question round bit) = codes "-" ++ decimal ((question * 64 + round) * 2 + bit_digit bit)

-- one more record after others
abbrev pub also_json : Record → List ℕ
also_json r = codes "," ++ record_json r

-- the records, a comma between each two
abbrev pub records_json : List Record → List ℕ
records_json [] = []
records_json (first ∷ others) = record_json first ++ flat_map also_json others
