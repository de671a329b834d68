-- Which of the entries is the first that names no address.
use Rattle.std.proofs.Common.{ℕ, zero, suc, ◌≡◌, ◌+◌, ◌<◌, subst, arith, List, [], ◌∷◌, get_or, length, take, IsSomeAnd, Some, slice_get}
use Rattle.std.specs.List.{AllByRecursion}
use Rattle.toml.specs.declared.value.Value.{Value}
use Rattle.commands.specs.Asked.{IsFirstNone, NamesNone, NamesOne}

is_at : (d : Value) (vs : List Value) (i : ℕ) → i < length vs → NamesNone (get_or vs i d) → IsSomeAnd (slice_get vs i) NamesNone
is_at d [] i below none = absurd (omega (arith, below))
is_at d (v ∷ vs) zero below none = none
is_at d (v ∷ vs) (suc i) below none = is_at d vs i (omega (arith, below)) none

-- an entry that names none, where all before name one
pub first_at : (d : Value) (vs : List Value) (i : ℕ) → i < length vs → AllByRecursion NamesOne (take i vs) → NamesNone (get_or vs i d) → IsFirstNone vs (Some i)
first_at d vs i below all none = (all, is_at d vs i below none)

more : (d : Value) (vs : List Value) (i : ℕ) → i < length vs → AllByRecursion NamesOne (take i vs) → NamesOne (get_or vs i d) → AllByRecursion NamesOne (take (suc i) vs)
more d [] i below all one = absurd (omega (arith, below))
more d (v ∷ vs) zero below all one = (one, tt)
more d (v ∷ vs) (suc i) below all one = (all.0, more d vs i (omega (arith, below)) all.1 one)

-- one entry more that names one
pub one_more : (d : Value) (vs : List Value) (i : ℕ) → i < length vs → AllByRecursion NamesOne (take i vs) → NamesOne (get_or vs i d)
    → AllByRecursion NamesOne (take (i + 1) vs)
one_more d vs i below all one =
    let e : suc i ≡ i + 1 = omega arith in
    subst (λ (k : ℕ). AllByRecursion NamesOne (take k vs)) e (more d vs i below all one)
