-- Numbers that rise, and how many of all numbers they are.
use Rattle.std.proofs.Common.{◌≡◌, ◌<◌, ◌≤◌, ◌+◌, ℕ, zero, suc, Bool, true, false, cond, ◌||◌, List, [], ◌∷◌, length, get_or, drop, refl, sym, subst, arith, add-one, nat_eq, eqb-true}
use Rattle.std.proofs.Math.Seq.{drop-cons}
use Rattle.terms_prelude.specs.Terms.{count_below}
use Rattle.sim.specs.Outcomes.{RiseFrom, among}

pub head_rises : (least n i : ℕ) (xs : List ℕ) → i < length xs → RiseFrom least n (drop i xs)
    → (least ≤ get_or xs i 0) × (get_or xs i 0 < n) × RiseFrom (get_or xs i 0 + 1) n (drop (i + 1) xs)
head_rises least n i xs l h =
    subst (λ (k : ℕ). (least ≤ get_or xs i 0) × (get_or xs i 0 < n) × RiseFrom (get_or xs i 0 + 1) n (drop k xs)) (sym (add-one i))
    (subst (λ (ys : List ℕ). RiseFrom least n ys) (drop-cons xs i 0 l) h)

pub rises_on : (least n i : ℕ) (xs : List ℕ) → i < length xs → least ≤ get_or xs i 0 → get_or xs i 0 < n
    → RiseFrom (get_or xs i 0 + 1) n (drop (i + 1) xs) → RiseFrom least n (drop i xs)
rises_on least n i xs l above below h =
    subst (λ (ys : List ℕ). RiseFrom least n ys) (sym (drop-cons xs i 0 l)) (above, below, subst (λ (k : ℕ). RiseFrom (get_or xs i 0 + 1) n (drop k xs)) (add-one i) h)

-- one number is at most once below n
none_below : (n x : ℕ) → n ≤ x → count_below n (λ a. nat_eq x a) ≡ 0
none_below zero x l = refl
none_below (suc n) x l = go (nat_eq x n) refl (none_below n x (omega (arith, l)))
  where
    go : (b : Bool) → nat_eq x n ≡ b → count_below n (λ a. nat_eq x a) ≡ 0 → cond b 1 0 + count_below n (λ a. nat_eq x a) ≡ 0
    go true e h = let g : x ≡ n = eqb-true x n e in absurd (omega (arith, g, l))
    go false e h = omega (arith, h)

one_below : (n x : ℕ) → count_below n (λ a. nat_eq x a) ≤ 1
one_below zero x = omega arith
one_below (suc n) x = go (nat_eq x n) refl (one_below n x)
  where
    go : (b : Bool) → nat_eq x n ≡ b → count_below n (λ a. nat_eq x a) ≤ 1 → cond b 1 0 + count_below n (λ a. nat_eq x a) ≤ 1
    go true e h = let g : x ≡ n = eqb-true x n e in let none = none_below n x (omega (arith, g)) in omega (arith, none)
    go false e h = omega (arith, h)

or_below : (n : ℕ) (P Q : ℕ → Bool) → count_below n (λ a. P a || Q a) ≤ count_below n P + count_below n Q
or_below zero P Q = omega arith
or_below (suc n) P Q = go (P n) (Q n) (or_below n P Q)
  where
    go : (p q : Bool) → count_below n (λ a. P a || Q a) ≤ count_below n P + count_below n Q
        → cond (p || q) 1 0 + count_below n (λ a. P a || Q a) ≤ (cond p 1 0 + count_below n P) + (cond q 1 0 + count_below n Q)
    go true true h = omega (arith, h)
    go true false h = omega (arith, h)
    go false true h = omega (arith, h)
    go false false h = omega (arith, h)

none_among : (n : ℕ) → count_below n (λ a. false) ≡ 0
none_among zero = refl
none_among (suc n) = let h = none_among n in omega (arith, h)

-- at most as many members as the list is long are among it
pub few_among : (n : ℕ) (xs : List ℕ) → count_below n (among xs) ≤ length xs
few_among n [] = let none = none_among n in omega (arith, none)
few_among n (x ∷ xs) = let both = or_below n (λ a. nat_eq x a) (among xs) in let one = one_below n x in let others = few_among n xs in omega (arith, both, one, others)
