-- The seven bytes of a statement, in frames and in journals.
use Rattle.std.specs.Prelude.{ℕ, nat_eq, if◌then◌else◌, List, [], ◌∷◌, ◌++◌}
use Rattle.std.specs.Int.{w16, to_be_bytes}
use Rattle.terms_prelude.specs.Terms.{Kind, Initial, Echo, Ready, Value, Zero, One, SureZero, SureOne, Unsure, Statement, value_code}

-- the byte of a kind
abbrev pub kind_byte : Kind → ℕ
kind_byte Initial = 1
kind_byte Echo = 2
kind_byte Ready = 3

-- the kind of a byte that is one's
abbrev pub kind_from : ℕ → Kind
kind_from b = if nat_eq b 1 then Initial else (if nat_eq b 2 then Echo else Ready)

-- the value of a byte that is one's
abbrev pub value_from : ℕ → Value
value_from b =
    if nat_eq b 0 then Zero else (if nat_eq b 1 then One else (if nat_eq b 2 then SureZero else (if nat_eq b 3 then SureOne else Unsure)))

-- the seven bytes of a statement
abbrev pub statement_bytes : Statement → List ℕ
statement_bytes s =
    kind_byte s.kind
    ∷ (to_be_bytes w16 s.place.question ++ s.place.origin ∷ s.place.round ∷ s.place.step ∷ value_code s.value ∷ [])
