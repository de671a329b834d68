-- How long a client waits.
use Rattle.std.specs.Prelude.{ℕ, ◌≡◌, ◌+◌, ◌*◌, ◌<◌, ◌≤◌, max, Option, Some, None, IsSomeAnd}
use Rattle.std.specs.Duration.{as_nanos}
use Rattle.std.specs.declared.time.Duration.{Duration}

-- the time in all of a client that is told so many milliseconds: these, and one at least; none where it isn't told
abbrev pub IsTotalOf : Option ℕ → Option Duration → Type 0
IsTotalOf None total = total ≡ None
IsTotalOf (Some milliseconds) total = IsSomeAnd total (λ total. as_nanos total ≡ max milliseconds 1 * 1000000)

-- the rest of a time, which with what has passed is all of it; none where as much has passed
abbrev pub IsRest : Duration → Duration → Option Duration → Type 0
IsRest whole passed None = as_nanos whole ≤ as_nanos passed
IsRest whole passed (Some left) = (0 < as_nanos left) × (as_nanos passed + as_nanos left ≡ as_nanos whole)

-- what is left of a time in all, or where there is none, of a step of so many seconds
abbrev pub IsLeft : Option Duration → Duration → ℕ → Option Duration → Type 0
IsLeft None passed step left = IsSomeAnd left (λ left. as_nanos left ≡ step * 1000000000)
IsLeft (Some whole) passed step left = IsRest whole passed left

-- some of a time in all, or where there is none, a step of so many seconds
abbrev pub IsWithin : Option Duration → ℕ → Duration → Type 0
IsWithin None step left = as_nanos left ≡ step * 1000000000
IsWithin (Some whole) step left = (0 < as_nanos left) × (as_nanos left ≤ as_nanos whole)
