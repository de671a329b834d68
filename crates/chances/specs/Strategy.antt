-- The adversary's rule.
use Rattle.std.specs.Prelude.{ℕ, ◌+◌, ◌-◌, ◌/◌, ◌%◌, if◌then◌else◌, ltb, eqb, min, Option, List, [], ◌∷◌, ◌++◌, length, take, drop}
use Rattle.std.specs.List.{count_by}
use Rattle.terms_prelude.specs.Terms.{Size, Value, Zero, One, SureZero, SureOne, Unsure, value_is}

-- the origins of this value, where the first of these values is that of this origin
abbrev pub origins_from : ℕ → Value → List (Option Value) → List ℕ
origins_from origin value [] = []
origins_from origin value (said ∷ values) =
    if value_is said value then origin ∷ origins_from (origin + 1) value values else origins_from (origin + 1) value values

-- the origins of this value, ascending
abbrev pub origins_of : Value → List (Option Value) → List ℕ
origins_of value values = origins_from 0 value values

-- how many origins said it
abbrev pub count_of : Value → List (Option Value) → ℕ
count_of value values = count_by (λ said. value_is said value) values

-- the value that lacks more to a majority among n - t values, of which Zero needs half, and One more than half
abbrev pub rarer : Size → ℕ → ℕ → Value
rarer size zeros ones =
    if ltb (ones + (size.n - size.t + 1) / 2) (zeros + (size.n - size.t) / 2 + 1) then One else Zero

-- the value of a liar's Initial
abbrev pub lie : Size → ℕ → List (Option Value) → Value
lie size step values = if eqb step 3 then Unsure else rarer size (count_of Zero values) (count_of One values)

-- in a first step: a member of an even number gets the Zeros first, any other the Ones
abbrev pub split_order : List (Option Value) → ℕ → List ℕ
split_order values receiver =
    if eqb (receiver % 2) 0 then origins_of Zero values ++ origins_of One values
    else origins_of One values ++ origins_of Zero values

-- how many Zeros come first in a second step among so many and so many Ones: a half of n - t, rounded up, if there are as many
abbrev pub few_zeros : Size → ℕ → ℕ
few_zeros size zeros = min (min zeros (size.n / 2)) ((size.n - size.t + 1) / 2)

-- how many Ones come first: what is missing from n - t
abbrev pub first_ones : Size → ℕ → ℕ → ℕ
first_ones size zeros ones = min (min ones (size.n / 2)) (size.n - size.t - few_zeros size zeros)

-- and how many Zeros: what is missing then
abbrev pub first_zeros : Size → ℕ → ℕ → ℕ
first_zeros size zeros ones = min (min zeros (size.n / 2)) (size.n - size.t - first_ones size zeros ones)

-- so many Zeros and so many Ones, then the others
abbrev pub even_parts : ℕ → ℕ → List ℕ → List ℕ → List ℕ
even_parts first_zeros first_ones zeros ones =
    take first_zeros zeros ++ take first_ones ones ++ drop first_zeros zeros ++ drop first_ones ones

-- in a second step
abbrev pub even_order : Size → List (Option Value) → List ℕ
even_order size values =
    let zeros = origins_of Zero values in let ones = origins_of One values in
    even_parts (first_zeros size (length zeros) (length ones)) (first_ones size (length zeros) (length ones)) zeros ones

-- in a third step: who is unsure comes first
abbrev pub unsure_order : List (Option Value) → List ℕ
unsure_order values = origins_of Unsure values ++ origins_of SureZero values ++ origins_of SureOne values

-- the order in which the broadcasts of a step are brought to this receiver
abbrev pub order : Size → ℕ → List (Option Value) → ℕ → List ℕ
order size step values receiver =
    if eqb step 1 then split_order values receiver
    else (if eqb step 2 then even_order size values else unsure_order values)
