-- What cells tell, each of its own question.
use Rattle.std.proofs.Common.{refl, [], ◌∷◌, ◌≡◌, ℕ, zero, suc, ◌+◌, ◌==◌, ◌<◌, ◌≤◌, ◌⊎◌, inl, inr, List, get_or, set, length, map, replicate, sym, ap, ◌∙◌, arith, subst, Bool, true, false, Option, Some, None, IfSome, if◌then◌else◌}
use Rattle.std.proofs.lemmas.Bool.Decides.{nat_tests}
use Rattle.std.proofs.lemmas.List.{get_or-map, get_or_past, length-map, map-set, set_past}
use Rattle.member.specs.declared.ruling.Ruling.{Ruling}
use Rattle.node.specs.Verdicts.{told, told_from, ruling_in, known_at, ruling_at, ruling_of}
use Rattle.node.proofs.Cells.{shown_at}

-- the cell at a place tells of the question that counts so far
pub told_at : (q : ℕ) (rs : List (Option Ruling)) (i : ℕ) → get_or (told_from q rs) i None ≡ told (q + i) (get_or rs i None)
told_at q [] i = refl
told_at q (r ∷ rs) zero = ap (λ (n : ℕ). told n r) (omega arith)
told_at q (r ∷ rs) (suc i) = told_at (q + 1) rs i ∙ ap (λ (n : ℕ). told n (get_or rs i None)) (omega arith)

-- one cell is set, and tells anew
pub told_set : (q : ℕ) (rs : List (Option Ruling)) (i : ℕ) (r : Option Ruling) → told_from q (set rs i r) ≡ set (told_from q rs) i (told (q + i) r)
told_set q [] i r = refl
told_set q (x ∷ rs) zero r = ap (λ (n : ℕ). told n r ∷ told_from (q + 1) rs) (omega arith)
told_set q (x ∷ rs) (suc i) r =
    ap (λ (l : List (Option Bool)). told q x ∷ l) (told_set (q + 1) rs i r ∙ ap (λ (n : ℕ). set (told_from (q + 1) rs) i (told n r)) (omega arith))

-- as many as there are cells
pub told_length : (q : ℕ) (rs : List (Option Ruling)) → length (told_from q rs) ≡ length rs
told_length q [] = refl
told_length q (r ∷ rs) = ap suc (told_length (q + 1) rs)

-- where nothing is known, nothing is told
pub told_nothing : (q n : ℕ) → told_from q (replicate n None) ≡ replicate n None
told_nothing q zero = refl
told_nothing q (suc n) = ap (λ (l : List (Option Bool)). None ∷ l) (told_nothing (q + 1) n)

-- the cells are counted from question 0
told_first : (rs : List (Option Ruling)) (i : ℕ) → known_at (told_from 0 rs) i ≡ told i (ruling_at rs i)
told_first rs i = told_at 0 rs i ∙ ap (λ (n : ℕ). told n (ruling_at rs i)) (omega arith)

-- what the note at a place tells
pub told_of : {A : Type 0} (f : A → Option Ruling) (xs : List A) (i : ℕ) (x : A) → i < length xs → x ≡ get_or xs i x → known_at (told_from 0 (map f xs)) i ≡ told i (f x)
told_of f xs i x within is = told_first (map f xs) i ∙ ap (told i) (get_or-map f xs i x None within ∙ sym (ap f is))

-- and what it tells once it was replaced
pub told_shown : {A : Type 0} (f : A → Option Ruling) (xs : List A) (i : ℕ) (y : A) → i < length xs → known_at (told_from 0 (map f (set xs i y))) i ≡ told i (f y)
told_shown f xs i y within = told_first (map f (set xs i y)) i ∙ ap (told i) (shown_at f xs i y None within)

-- the others tell what they told
pub told_others : {A : Type 0} (f : A → Option Ruling) (xs : List A) (i : ℕ) (y : A) → told_from 0 (map f (set xs i y)) ≡ set (told_from 0 (map f xs)) i (told i (f y))
told_others f xs i y = ap (told_from 0) (map-set f xs i y) ∙ told_set 0 (map f xs) i (f y) ∙ ap (λ (n : ℕ). set (told_from 0 (map f xs)) i (told n (f y))) (omega arith)

-- past the cells nothing is told
pub told_past : {A : Type 0} (f : A → Option Ruling) (xs : List A) (i : ℕ) → length xs ≤ i → known_at (told_from 0 (map f xs)) i ≡ None
told_past f xs i past = told_first (map f xs) i ∙ ap (told i) (get_or_past (map f xs) i None (subst (λ (n : ℕ). n ≤ i) (sym (length-map xs f)) past))

pub set_none_past : {A : Type 0} (f : A → Option Ruling) (xs : List A) (i : ℕ) (y : Option Bool) → length xs ≤ i → set (told_from 0 (map f xs)) i y ≡ told_from 0 (map f xs)
set_none_past f xs i y past =
    set_past (told_from 0 (map f xs)) i y (subst (λ (n : ℕ). n ≤ i) (sym (told_length 0 (map f xs) ∙ length-map xs f)) past)

-- past the cells or past the notes of them
pub past_either : {A B : Type 0} (f : A → ℕ) (g : B → ℕ) (notes : List A) (cells : List B) (i : ℕ) → map f notes ≡ map g cells → (length cells ≤ i) ⊎ (length notes ≤ i) → length notes ≤ i
past_either f g notes cells i same (inl past) = let e = ap length same in omega (arith, length-map notes f, length-map cells g, e, past)
past_either f g notes cells i same (inr past) = past

-- what was told is told again
same_bit : (old new : Option Bool) → new ≡ old → IfSome old (λ bit. new ≡ Some bit)
same_bit None new same = tt
same_bit (Some bit) new same = same

pub told_again : (q : ℕ) (old new : Option (Option Ruling)) → IfSome old (λ post. new ≡ Some post) → IfSome (told q (ruling_in old)) (λ bit. told q (ruling_in new) ≡ Some bit)
told_again q None new kept = tt
told_again q (Some post) new kept = same_bit (told q post) (told q (ruling_in new)) (ap (λ (k : Option (Option Ruling)). told q (ruling_in k)) kept)

-- a bit that is told is that of a ruling on the question
told_by : (q : ℕ) (ruling : Ruling) (same : Bool) → (ruling.question == q) ≡ same → IfSome (if same then Some ruling.bit else None) (λ bit. Some ruling ≡ Some (ruling_of q bit))
told_by q ruling true is = let e : ruling.question ≡ q = grind (arith, nat_tests) in ap (λ (n : ℕ). Some (ruling_of n ruling.bit)) e
told_by q ruling false is = tt

pub told_is : (q : ℕ) (found : Option Ruling) → IfSome (told q found) (λ bit. found ≡ Some (ruling_of q bit))
told_is q None = tt
told_is q (Some ruling) = told_by q ruling (ruling.question == q) refl

one_of : (o : Option Bool) → IfSome o (λ b. Unit {0})
one_of None = tt
one_of (Some b) = tt

both_of : (o p : Option Bool) → p ≡ o → IfSome o (λ b. IfSome p (λ c. c ≡ b))
both_of None p same = tt
both_of (Some b) None same = tt
both_of (Some b) (Some c) same = let e : Some c ≡ Some b = same in cc

own_by : (q : ℕ) (ruling : Ruling) (same : Bool) → (ruling.question == q) ≡ same → ruling.question ≡ q → (if same then Some ruling.bit else None) ≡ Some ruling.bit
own_by q ruling true is e = refl
own_by q ruling false is e = absurd (grind (arith, nat_tests))

-- the cell of its own question tells a ruling's bit
pub told_own : (q : ℕ) (ruling : Ruling) → ruling.question ≡ q → told q (Some ruling) ≡ Some ruling.bit
told_own q ruling same = own_by q ruling (ruling.question == q) refl same

-- two notes of one cell that know a post tell the same
pub told_both : (q : ℕ) (one other : Option (Option Ruling)) → IfSome other (λ b. IfSome one (λ c. c ≡ b)) → IfSome (told q (ruling_in other)) (λ b. IfSome (told q (ruling_in one)) (λ c. c ≡ b))
told_both q one None same = tt
told_both q None (Some post) same = one_of (told q post)
told_both q (Some mine) (Some post) same = both_of (told q post) (told q mine) (ap (told q) same)

-- where one tells nothing there is nothing to compare
pub told_alone : (one other : Option Bool) → (one ≡ None) ⊎ (other ≡ None) → IfSome other (λ b. IfSome one (λ c. c ≡ b))
told_alone one None none = tt
told_alone None (Some b) none = tt
told_alone (Some c) (Some b) (inl none) = let e : Some c ≡ None = none in absurd (cc)
told_alone (Some c) (Some b) (inr none) = let e : Some b ≡ None = none in absurd (cc)
