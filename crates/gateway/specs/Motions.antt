-- The body of a proposal.
use Rattle.std.specs.Prelude.{ℕ, ◌≡◌, Bool, true, false, List, codes, Some}
use Rattle.std.specs.Str.{IsUtf8}
use Rattle.json.specs.Json.{Json, document, member, no_members, number, object}

-- a bit as JSON writes it
abbrev pub bit_text : Bool → List ℕ
bit_text false = codes "0"
bit_text true = codes "1"

-- the value is an object that has this number at `bit`, and nothing else
abbrev pub HasBit : Json → Bool → Type 0
HasBit value bit = value ≡ object (member (codes "bit") (number (bit_text bit)) no_members)

-- the body is JSON that has the bit, and nothing else
pub record IsMotion (body : List ℕ) (bit : Bool) : Type 0 where
  pub utf8 : IsUtf8 body
  pub value : Json
  pub is : document body ≡ Some value
  pub has : HasBit value bit
