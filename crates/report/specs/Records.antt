-- Records in words.
use Rattle.std.specs.Prelude.{ℕ, List, [], ◌∷◌, codes}
use Rattle.std.specs.Fmt.{decimal}
use Rattle.numerals.specs.Sentences.{sentence, bit_digit}
use Rattle.terms_prelude.specs.Terms.{Kind, Initial, Echo, Ready, Value, Zero, One, SureZero, SureOne, Unsure, Statement, Record, Said, Decided}

-- the word of a kind
abbrev pub kind_word : Kind → List ℕ
kind_word Initial = codes "initial"
kind_word Echo = codes "echo"
kind_word Ready = codes "ready"

-- the word of a value
abbrev pub value_word : Value → List ℕ
value_word Zero = codes "zero"
value_word One = codes "one"
value_word SureZero = codes "sure-zero"
value_word SureOne = codes "sure-one"
value_word Unsure = codes "unsure"

-- the words of a statement
abbrev pub statement_text : Statement → List ℕ
statement_text s =
    sentence (kind_word s.kind ∷ decimal s.place.question ∷ decimal s.place.origin ∷ decimal s.place.round
    ∷ decimal s.place.step ∷ value_word s.value ∷ [])

-- the words of a record
abbrev pub record_text : Record → List ℕ
record_text (Said s) = statement_text s
record_text (Decided question round bit) =
    sentence (codes "decided" ∷ decimal question ∷ decimal round ∷ decimal (bit_digit bit) ∷ [])
