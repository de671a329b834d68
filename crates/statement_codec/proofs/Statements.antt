-- A kind and a value are read back from their bytes.
use Rattle.std.proofs.Common.{◌≡◌, refl}
use Rattle.terms_prelude.specs.Terms.{Kind, Initial, Echo, Ready, Value, Zero, One, SureZero, SureOne, Unsure, value_code}
use Rattle.statement_codec.specs.Statements.{kind_byte, kind_from, value_from}

-- the kind of the byte of a kind
pub kind_again : (k : Kind) → kind_from (kind_byte k) ≡ k
kind_again Initial = refl
kind_again Echo = refl
kind_again Ready = refl

-- the value of the byte of a value
pub value_again : (v : Value) → value_from (value_code v) ≡ v
value_again Zero = refl
value_again One = refl
value_again SureZero = refl
value_again SureOne = refl
value_again Unsure = refl
