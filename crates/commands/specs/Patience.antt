-- How long a client waits, as its words say it.
use Rattle.std.specs.Prelude.{ℕ, ◌≡◌, ◌⊎◌, ◌+◌, ◌*◌, List, [], ◌∷◌, ◌++◌, length}
use Rattle.numerals.specs.Numbers.{IsBelow}

-- so many digits behind a point, one to three, that write this number, stand for so many milliseconds
abbrev pub IsScaled : ℕ → ℕ → ℕ → Type 0
IsScaled digits number part =
    ((digits ≡ 1) × (part ≡ 100 * number)) ⊎ (((digits ≡ 2) × (part ≡ 10 * number)) ⊎ ((digits ≡ 3) × (part ≡ number)))

-- one to three digits of a part of a second write so many milliseconds
abbrev pub IsPart : List ℕ → ℕ → Type 0
IsPart digits part = (number : ℕ) × IsBelow 16 digits number × IsScaled (length digits) number part

-- the text writes so many whole seconds
abbrev pub IsWhole : List ℕ → ℕ → Type 0
IsWhole text milliseconds = (whole : ℕ) × IsBelow 16 text whole × (milliseconds ≡ 1000 * whole)

-- so many whole seconds, and a part of one
abbrev pub AreParts : List ℕ → List ℕ → ℕ → Type 0
AreParts front digits milliseconds =
    (whole : ℕ) × (part : ℕ) × IsBelow 16 front whole × IsPart digits part × (milliseconds ≡ 1000 * whole + part)

-- the text writes so many seconds, with a part or without
abbrev pub IsSeconds : List ℕ → ℕ → Type 0
IsSeconds text milliseconds =
    IsWhole text milliseconds
    ⊎ ((front : List ℕ) × (digits : List ℕ) × (text ≡ front ++ 46 ∷ digits) × AreParts front digits milliseconds)

-- the text writes so many seconds, with an `s` behind or without
abbrev pub IsPatience : List ℕ → ℕ → Type 0
IsPatience text milliseconds =
    IsSeconds text milliseconds ⊎ ((front : List ℕ) × (text ≡ front ++ 115 ∷ []) × IsSeconds front milliseconds)
