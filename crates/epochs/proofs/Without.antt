-- Lists without those that pass a test, for who waits for an epoch and for what runs.
use Rattle.std.proofs.Common.{ℕ, ◌≡◌, ◌+◌, ◌<◌, ◌≤◌, zero, suc, Bool, true, false, not, cond, List, [], ◌∷◌, None, Some, length, filter, get_or, refl, sym, ap, ◌∙◌, arith, tests}
use Rattle.std.specs.List.{remove, position, position_or_len, prefix_len}
use Rattle.std.proofs.lemmas.List.Quantifiers.{position-Some}

-- what fails a test may be taken out of what passes it
filter-removed : {X : Type 0} (q : X → Bool) (xs : List X) (at : ℕ) (d : X) → at < length xs → q (get_or xs at d) ≡ false → filter q (remove xs at) ≡ filter q xs
filter-removed q [] at d within fails = absurd (omega (arith, within))
filter-removed {X} q (x ∷ xs) zero d within fails = sym (ap (λ (b : Bool). cond b (x ∷ filter q xs) (filter q xs)) fails)
filter-removed {X} q (x ∷ xs) (suc at) d within fails = ap (λ (l : List X). cond (q x) (x ∷ l) l) (filter-removed q xs at d (omega (arith, within)) fails)

filter_all : {X : Type 0} (q : X → Bool) (xs : List X) → length xs ≤ prefix_len q xs → filter q xs ≡ xs
filter_all q [] all = refl
filter_all {X} q (x ∷ xs) all = by (q x) (filter_all q xs) all where
  by : (b : Bool) → (length xs ≤ prefix_len q xs → filter q xs ≡ xs) → suc (length xs) ≤ cond b (1 + prefix_len q xs) 0
      → cond b (x ∷ filter q xs) (filter q xs) ≡ x ∷ xs
  by true rest all = ap (λ (l : List X). x ∷ l) (rest (omega (arith, all)))
  by false rest all = absurd (omega (arith, all))

-- where none passes all fail
pub nobody : {X : Type 0} (p : X → Bool) (xs : List X) → position p xs ≡ None → filter (λ x. not (p x)) xs ≡ xs
nobody p xs none =
    let past : length xs ≤ position_or_len p xs = grind (arith, tests) in
    filter_all (λ x. not (p x)) xs past

-- where the first that passes is taken out, those that fail stay
pub others : {X : Type 0} (p : X → Bool) (xs less : List X) (at : ℕ) (d : X) → position p xs ≡ Some at → less ≡ remove xs at
    → filter (λ x. not (p x)) less ≡ filter (λ x. not (p x)) xs
others p xs less at d placed is =
    let found = position-Some p xs at d placed in
    ap (filter (λ x. not (p x))) is ∙ filter-removed (λ x. not (p x)) xs at d found.0 (ap not found.1)
