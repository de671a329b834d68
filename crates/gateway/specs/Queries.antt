-- What stands after the question mark of a request's target.
use Rattle.std.specs.Prelude.{ℕ, ◌≡◌, ◌⊎◌, ◌≤◌, ◌==◌, false, List, [], ◌∷◌, ◌++◌, codes}
use Rattle.numerals.specs.Numbers.{IsBelow}
use Rattle.gateway.specs.declared.queries.Position.{Position}

-- no byte is this one
abbrev pub Lacks : ℕ → List ℕ → Type 0
Lacks mark [] = Unit {0}
Lacks mark (byte ∷ bytes) = ((byte == mark) ≡ false) × Lacks mark bytes

-- the seconds that the request waits: none without a query, else as `wait=` says, 60 at most
abbrev pub IsTimed : List ℕ → ℕ → Type 0
IsTimed query wait = (digits : List ℕ) × (query ≡ codes "wait=" ++ digits) × IsBelow 16 digits wait × (wait ≤ 60)

abbrev pub IsWait : List ℕ → ℕ → Type 0
IsWait query wait = ((query ≡ []) × (wait ≡ 0)) ⊎ IsTimed query wait

-- the text is these words with `&to=` between them
pub record IsCut (text first second : List ℕ) : Type 0 where
  pub is : text ≡ first ++ 38 ∷ (codes "to=" ++ second)
  pub one : Lacks 38 first

-- `A&to=B`, and `from=A&to=B`
abbrev pub AreBoundsOf : List ℕ → ℕ → ℕ → Type 0
AreBoundsOf text from to = (first : List ℕ) × (second : List ℕ) × IsCut text first second × IsBelow 64 first from × IsBelow 64 second to

abbrev pub AreBounds : List ℕ → ℕ → ℕ → Type 0
AreBounds query from to = (rest : List ℕ) × (query ≡ codes "from=" ++ rest) × AreBoundsOf rest from to

-- the questions that are asked for: all without a query
abbrev pub IsNamed : ℕ → List ℕ → ℕ → ℕ → Type 0
IsNamed questions query from to = AreBounds query from to × (from ≤ to) × (to ≤ questions)

abbrev pub IsRange : ℕ → List ℕ → ℕ → ℕ → Type 0
IsRange questions query from to = ((query ≡ []) × (from ≡ 0) × (to ≡ questions)) ⊎ IsNamed questions query from to

-- LIFE.K: the life of a gateway and the number of an event in it
pub record IsPosition (text : List ℕ) (at : Position) : Type 0 where
  pub first : List ℕ
  pub second : List ℕ
  pub is : text ≡ first ++ 46 ∷ second
  pub one : Lacks 46 first
  pub life : IsBelow 64 first at.life
  pub number : IsBelow 64 second at.number

-- the position that a follower goes on from: that of the last event that it saw, or else that of the query
abbrev pub IsAfterQuery : List ℕ → Position → Type 0
IsAfterQuery query at = (text : List ℕ) × (query ≡ codes "after=" ++ text) × IsPosition text at

abbrev pub IsAfter : List ℕ → List ℕ → Position → Type 0
IsAfter query [] at = IsAfterQuery query at
IsAfter query (byte ∷ bytes) at = IsPosition (byte ∷ bytes) at
