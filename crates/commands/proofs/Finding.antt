-- Which of the lines is the first.
use Rattle.std.proofs.Common.{ℕ, zero, suc, ◌≡◌, ◌+◌, ◌-◌, ◌<◌, ◌∙◌, ap, refl, subst, arith, List, [], ◌∷◌, get_or, length, take, drop, IsSomeAnd, None, Some, slice_get, Bor}
use Rattle.commands.specs.TextLines.{IsFirstBelow, IsFirstLine, NoLine, texts}

-- what is said of a line is said of the one at its place
pub is_at : (P : List ℕ → Type 0) (d : Bor (List ℕ)) (lines : List (Bor (List ℕ))) (i : ℕ) → i < length lines → P (get_or lines i d).now → IsSomeAnd (slice_get (texts lines) i) P
is_at P d [] i below p = absurd (omega (arith, below))
is_at P d (x ∷ xs) zero below p = p
is_at P d (x ∷ xs) (suc i) below p = is_at P d xs i (omega (arith, below)) p

-- and so it is the first, where none before is
pub first_at : (P : List ℕ → Type 0) (d : Bor (List ℕ)) (lines : List (Bor (List ℕ))) (i : ℕ) → i < length lines → NoLine P (take i (texts lines)) → P (get_or lines i d).now
    → IsFirstLine P (texts lines) (Some (i + 1))
first_at P d lines i below none is =
    let same : i ≡ i + 1 - 1 = omega arith in (
      omega arith,
      subst (λ (k : ℕ). NoLine P (take k (texts lines))) same none,
      subst (λ (k : ℕ). IsSomeAnd (slice_get (texts lines) k) P) same (is_at P d lines i below is),
    )

more : (P : List ℕ → Type 0) (d : Bor (List ℕ)) (lines : List (Bor (List ℕ))) (i : ℕ) → i < length lines → NoLine P (take i (texts lines)) → (P (get_or lines i d).now → ⊥)
    → NoLine P (take (suc i) (texts lines))
more P d [] i below none not = absurd (omega (arith, below))
more P d (x ∷ xs) zero below none not = (not, tt)
more P d (x ∷ xs) (suc i) below none not = (none.0, more P d xs i (omega (arith, below)) none.1 not)

-- one line more that isn't such
pub none_more : (P : List ℕ → Type 0) (d : Bor (List ℕ)) (lines : List (Bor (List ℕ))) (i : ℕ) → i < length lines → NoLine P (take i (texts lines)) → (P (get_or lines i d).now → ⊥)
    → NoLine P (take (i + 1) (texts lines))
none_more P d lines i below none not =
    let e : suc i ≡ i + 1 = omega arith in
    subst (λ (k : ℕ). NoLine P (take k (texts lines))) e (more P d lines i below none not)

-- the place behind so many lines, in all lines
there : (P : List ℕ → Type 0) (lines : List (List ℕ)) (above place : ℕ) → IsSomeAnd (slice_get (drop above lines) place) P → IsSomeAnd (slice_get lines (above + place)) P
there P lines zero place is =
    let e : place ≡ 0 + place = omega arith in
    subst (λ (k : ℕ). IsSomeAnd (slice_get lines k) P) e is
there P [] (suc above) place is = absurd is
there P (line ∷ lines) (suc above) place is =
    let e : suc (above + place) ≡ suc above + place = omega arith in
    subst (λ (k : ℕ). IsSomeAnd (slice_get (line ∷ lines) k) P) e (there P lines above place is)

-- the texts of what is left of some lines
texts_dropped : (lines : List (Bor (List ℕ))) (above : ℕ) → texts (drop above lines) ≡ drop above (texts lines)
texts_dropped lines zero = refl
texts_dropped [] (suc above) = refl
texts_dropped (line ∷ lines) (suc above) = texts_dropped lines above

below : (P : List ℕ → Type 0) (lines : List (List ℕ)) (above number : ℕ) → IsFirstLine P (drop above lines) (Some number)
    → IsFirstBelow above P lines (Some (above + number))
below P lines above number first =
    let same : number - 1 ≡ above + number - 1 - above = omega (arith, first.0) in
    let place : above + (number - 1) ≡ above + number - 1 = omega (arith, first.0) in (
      omega (arith, first.0),
      subst (λ (k : ℕ). NoLine P (take k (drop above lines))) same first.1,
      subst (λ (k : ℕ). IsSomeAnd (slice_get lines k) P) place (there P lines above (number - 1) first.2),
    )

-- the first of the rest is the first below
pub first_below : (P : List ℕ → Type 0) (lines rest : List (Bor (List ℕ))) (above number : ℕ) → rest ≡ drop above lines
    → IsFirstLine P (texts rest) (Some number) → IsFirstBelow above P (texts lines) (Some (above + number))
first_below P lines rest above number is first =
    below P (texts lines) above number
    (subst (λ (ls : List (List ℕ)). IsFirstLine P ls (Some number)) (ap texts is ∙ texts_dropped lines above) first)

-- and where the rest has none there is none below
pub none_below : (P : List ℕ → Type 0) (lines rest : List (Bor (List ℕ))) (above : ℕ) → rest ≡ drop above lines → IsFirstLine P (texts rest) None
    → IsFirstBelow above P (texts lines) None
none_below P lines rest above is none = subst (NoLine P) (ap texts is ∙ texts_dropped lines above) none
