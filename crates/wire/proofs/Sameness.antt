-- What `==` says of two statements is what `statement_eq` says.
use Rattle.std.proofs.Common.{◌≡◌, Bool, List, refl, sym, eqb, ◌&&◌, ◌∙◌}
use Rattle.std.proofs.Math.Bool.{and_assoc}
use Rattle.std.specs.Cmp.Lexicographic.{pointwise}
use Rattle.wire.specs.Same.{same_statements}
use denote.Enum.Bare.{sameb}
use denote.Enum.Declared.{tag_of}
use Rattle.terms.specs.contracts.Kind as kind_contract
use Rattle.terms.specs.contracts.Value as value_contract
use Rattle.terms_prelude.specs.Terms.{Kind, Initial, Echo, Ready, Value, Zero, One, SureZero, SureOne, Unsure, Statement, statement_eq, kind_eq, value_eq, place_eq, kind_code, value_code}

kind_tag : (k : Kind) → tag_of kind_contract.the_type k ≡ kind_code k
kind_tag Initial = refl
kind_tag Echo = refl
kind_tag Ready = refl

value_tag : (v : Value) → tag_of value_contract.the_type v ≡ value_code v
value_tag Zero = refl
value_tag One = refl
value_tag SureZero = refl
value_tag SureOne = refl
value_tag Unsure = refl

-- `==` of two statements, field by field
abbrev pub fields_eq : Statement → Statement → Bool
fields_eq s t = sameb kind_contract.the_type s.kind t.kind && (place_eq s.place t.place && sameb value_contract.the_type s.value t.value)

pub fields_eq-is : (s t : Statement) → fields_eq s t ≡ statement_eq s t
fields_eq-is s t =
    (λ i. eqb (kind_tag s.kind i) (kind_tag t.kind i) && (place_eq s.place t.place && eqb (value_tag s.value i) (value_tag t.value i)))
    ∙ sym (and_assoc (kind_eq s.kind t.kind) (place_eq s.place t.place) (value_eq s.value t.value))

-- `==` of two lists, element by element
pub lists_eq-is : (xs ys : List Statement) → pointwise fields_eq xs ys ≡ same_statements xs ys
lists_eq-is xs ys i = pointwise (λ s t. fields_eq-is s t i) xs ys
