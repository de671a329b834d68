-- Statements that go as one group.
use Rattle.std.proofs.Common.{◌≡◌, ◌<◌, ◌≤◌, ◌+◌, ◌||◌, ℕ, zero, suc, Option, Some, None, Bool, true, false, List, [], ◌∷◌, ◌++◌, length, length-append, get_or, refl, sym, ap, ◌∙◌, arith, map, min, drop, take}
use Rattle.std.specs.List.{AllByRecursion}
use Rattle.std.proofs.Math.Nat.{zero-add}
use Rattle.std.proofs.Math.Seq.{drop-nil}
use Rattle.terms_prelude.specs.Terms.{Size, Statement, Record, Said, Decided, has_said, statement_eq, IsWellFormed}
use Rattle.terms.proofs.Same.{statement_eq-same}
use Rattle.rounds.specs.declared.tosses.Toss.{Toss}
use Rattle.wire.specs.Reading.{End, Rest}
use Rattle.member.specs.Groups.{hearings, AllCome}
use Rattle.sim.specs.Words.{nth_said, all_said, group_from, hearings_from, Scene, AreSaid}

pub or_true : (b : Bool) → (b || true) ≡ true
or_true true = refl
or_true false = refl

pub no_some : {A : Type 0} (o : Option A) → ((x : A) → o ≡ Some x → ⊥) → o ≡ None
no_some None h = refl
no_some (Some x) h = absurd (h x refl)

-- the statement of a number, and those behind it
pub drop_some : (records : List Record) (k : ℕ) (s : Statement) → nth_said records k ≡ Some s → drop k (all_said records) ≡ s ∷ drop (suc k) (all_said records)
drop_some [] k s h = cc
drop_some (Said x ∷ records) zero s h = let e : x ≡ s = cc in ap (λ (y : Statement). y ∷ all_said records) e
drop_some (Said x ∷ records) (suc k) s h = drop_some records k s h
drop_some (Decided question round bit ∷ records) k s h = drop_some records k s h

pub drop_none : (records : List Record) (k : ℕ) → nth_said records k ≡ None → drop k (all_said records) ≡ []
drop_none [] k h = drop-nil k
drop_none (Said x ∷ records) zero h = cc
drop_none (Said x ∷ records) (suc k) h = drop_none records k h
drop_none (Decided question round bit ∷ records) k h = drop_none records k h

drop_both : {A : Type 0} (xs : List A) (n i : ℕ) → drop (n + i) xs ≡ drop i (drop n xs)
drop_both xs zero i = ap (λ (k : ℕ). drop k xs) (zero-add i)
drop_both [] (suc n) i = drop-nil (suc n + i) ∙ sym (drop-nil i)
drop_both (x ∷ xs) (suc n) i = let e : suc n + i ≡ suc (n + i) = omega arith in rw e (drop_both xs n i)

take_next : {A : Type 0} (xs : List A) (i : ℕ) (x : A) (rest : List A) → drop i xs ≡ x ∷ rest → take (suc i) xs ≡ take i xs ++ x ∷ []
take_next [] i x rest h = let none : [] ≡ x ∷ rest = sym (drop-nil i) ∙ h in cc
take_next (y ∷ ys) zero x rest h = let e : y ≡ x = cc in ap (λ (z : _). z ∷ []) e
take_next (y ∷ ys) (suc i) x rest h = ap (λ (l : _). y ∷ l) (take_next ys i x rest h)

take_rest : {A : Type 0} (xs : List A) (i k : ℕ) → drop i xs ≡ [] → i ≤ k → take k xs ≡ take i xs
take_rest [] zero zero h l = refl
take_rest [] zero (suc k) h l = refl
take_rest [] (suc i) zero h l = refl
take_rest [] (suc i) (suc k) h l = refl
take_rest (x ∷ xs) zero k h l = cc
take_rest (x ∷ xs) (suc i) zero h l = absurd (omega (arith, l))
take_rest (x ∷ xs) (suc i) (suc k) h l = ap (λ (ys : _). x ∷ ys) (take_rest xs i k h (omega (arith, l)))

-- the first so many of a group were taken
pub record TakenSoFar (records : List Record) (number i : ℕ) (taken : List Statement) (place : ℕ) : Type 0 where
  pub taken_are : taken ≡ take i (drop number (all_said records))
  pub place_is : place ≡ number + i
  pub count : length taken ≡ i

module _ (records : List Record) (number i : ℕ) (taken : List Statement) (place : ℕ) (so : TakenSoFar records number i taken place) where
  pub one_taken : (s : Statement) (more : List Statement) (next : ℕ) → nth_said records place ≡ Some s → more ≡ taken ++ s ∷ [] → next ≡ place + 1
      → TakenSoFar records number (i + 1) more next
  one_taken s more next h m n =
      let there : drop i (drop number (all_said records)) ≡ s ∷ drop (suc place) (all_said records) =
      sym (drop_both (all_said records) number i) ∙ ap (λ (k : ℕ). drop k (all_said records)) (sym so.place_is) ∙ drop_some records place s h in
      let one : i + 1 ≡ suc i = omega arith in
      record {
        taken_are = m ∙ ap (λ (l : List Statement). l ++ s ∷ []) so.taken_are ∙ sym (take_next (drop number (all_said records)) i s (drop (suc place) (all_said records)) there)
            ∙ ap (λ (k : ℕ). take k (drop number (all_said records))) (sym one);
        place_is = let p = so.place_is in omega (arith, p, n);
        count = let c = so.count in let l = ap (λ (x : List Statement). length x) m in let a = length-append taken (s ∷ []) in omega (arith, c, l, a);
      }

  -- where the sender has said no more
  pub taken_short : (count : ℕ) → nth_said records place ≡ None → i ≤ min count 256 → taken ≡ group_from records number count
  taken_short count h l =
      let none : drop i (drop number (all_said records)) ≡ [] =
      sym (drop_both (all_said records) number i) ∙ ap (λ (k : ℕ). drop k (all_said records)) (sym so.place_is) ∙ drop_none records place h in
      so.taken_are ∙ sym (take_rest (drop number (all_said records)) i (min count 256) none l)

  -- where there are as many as may be
  pub taken_full : (count : ℕ) → i ≡ min count 256 → taken ≡ group_from records number count
  taken_full count e = so.taken_are ∙ ap (λ (k : ℕ). take k (drop number (all_said records))) e

  pub place_behind : place ≡ number + length taken
  place_behind = let p = so.place_is in let c = so.count in omega (arith, p, c)

-- a group begins with the statement of its number
pub group_some : (records : List Record) (number count : ℕ) (s : Statement) → nth_said records number ≡ Some s → 0 < count
    → (rest : List Statement) × (group_from records number count ≡ s ∷ rest)
group_some records number count s h l = go (min count 256) (omega (arith, l))
  where
    go : (k : ℕ) → 0 < k → (rest : List Statement) × (take k (drop number (all_said records)) ≡ s ∷ rest)
    go zero m = absurd (omega (arith, m))
    go (suc k) m = (take k (drop (suc number) (all_said records)), ap (λ (xs : List Statement). take (suc k) xs) (drop_some records number s h))

take-nil : (k : ℕ) → ◌≡◌ {A = List Statement} (take k []) []
take-nil zero = refl
take-nil (suc k) = refl

pub group_none : (records : List Record) (number count : ℕ) → nth_said records number ≡ None → group_from records number count ≡ []
group_none records number count h = ap (λ (xs : List Statement). take (min count 256) xs) (drop_none records number h) ∙ take-nil (min count 256)

pub group_of_none : (records : List Record) (number count : ℕ) → count ≡ 0 → group_from records number count ≡ []
group_of_none records number count h = let e : min count 256 ≡ 0 = omega (arith, h) in rw e refl

-- what holds of all of a list holds of its parts
all_taken : {A : Type 0} (P : A → Type 0) (k : ℕ) (xs : List A) → AllByRecursion P xs → AllByRecursion P (take k xs)
all_taken P zero xs h = tt
all_taken P (suc k) [] h = tt
all_taken P (suc k) (x ∷ xs) h = (h.0, all_taken P k xs h.1)

all_dropped : {A : Type 0} (P : A → Type 0) (k : ℕ) (xs : List A) → AllByRecursion P xs → AllByRecursion P (drop k xs)
all_dropped P zero xs h = h
all_dropped P (suc k) [] h = tt
all_dropped P (suc k) (x ∷ xs) h = all_dropped P k xs h.1

all_of_said : (P : Statement → Type 0) (records : List Record) → ((s : Statement) → has_said records s ≡ true → P s) → AllByRecursion P (all_said records)
all_of_said P [] f = tt
all_of_said P (Said x ∷ records) f =
    (f x (rw (statement_eq-same x) refl), all_of_said P records (λ s h. f s (rw h (or_true (statement_eq x s)))))
all_of_said P (Decided question round bit ∷ records) f = all_of_said P records f

pub all_in_group : (P : Statement → Type 0) (records : List Record) (number count : ℕ) → ((s : Statement) → has_said records s ≡ true → P s)
    → AllByRecursion P (group_from records number count)
all_in_group P records number count f = all_taken P (min count 256) _ (all_dropped P number (all_said records) (all_of_said P records f))

-- what holds of all holds of each
pub all_at : {A : Type 0} (P : A → Type 0) (xs : List A) (i : ℕ) (d : A) → AllByRecursion P xs → i < length xs → P (get_or xs i d)
all_at P [] i d h l = absurd (omega arith)
all_at P (x ∷ xs) zero d h l = h.0
all_at P (x ∷ xs) (suc i) d h l = all_at P xs i d h.1 (omega arith)

pub all_formed_of : (size : Size) (c : Scene) (from : ℕ) (statements : List Statement) → AreSaid size c from statements → AllByRecursion (IsWellFormed size) statements
all_formed_of size c from [] h = tt
all_formed_of size c from (s ∷ statements) h = (h.0.1, all_formed_of size c from statements h.1)

-- each with its sender and its toss
pub hearings_are : (from : ℕ) (toss : Toss) (statements : List Statement) → hearings (map (λ s. (from, s, toss)) statements) ≡ hearings_from from toss.0 statements
hearings_are from toss [] = refl
hearings_are from toss (s ∷ statements) = ap (λ (l : List (ℕ × Statement × ℕ)). (from, s, toss.0) ∷ l) (hearings_are from toss statements)

pub all_come : (size : Size) (c : Scene) (from toss : ℕ) (statements : List Statement) → AreSaid size c from statements → AllCome c.world (hearings_from from toss statements)
all_come size c from toss [] h = tt
all_come size c from toss (s ∷ statements) h = (h.0.0, all_come size c from toss statements h.1)

-- some of these were carried, and the rest is left
pub record CarriedSoFar (size : Size) (from : ℕ) (toss : Toss) (statements rest : List Statement) (all : List (ℕ × Statement × Toss)) (end : End) : Type 0 where
  pub formed : AllByRecursion (IsWellFormed size) rest
  pub all_are : all ++ map (λ s. (from, s, toss)) rest ≡ map (λ s. (from, s, toss)) statements
  pub end_is : end ≡ Rest []
