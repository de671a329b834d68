-- What can be decided: facts that are so or not, and things of a form that are found or not.
use Rattle.std.proofs.Common.{ℕ, ◌≡◌, ◌<◌, ◌≤◌, refl, subst, rules, arith, inl, inr, ◌⊎◌, Bool, true, false, eqb, eq-eqb, nat_lt, List, [], ◌∷◌, eqb-true, tests}

-- it is so, or it isn't
abbrev pub TrueOrNot : Type 0 → Type 0
TrueOrNot P = P ⊎ (P → ⊥)

-- a thing of the form, or that there is none
pub data FoundOrNot {A : Type 0} (Form : A → Type 0) : Type 0 where
  Found : (x : A) → Form x → FoundOrNot Form
  NotFound : ((x : A) → Form x → ⊥) → FoundOrNot Form

-- for each thing one of that form is found, or there is none
abbrev pub Decides : {A B : Type 0} → (A → B → Type 0) → Type 0
Decides {A} {B} Form = (a : A) → FoundOrNot (Form a)

-- what is found of one form is found of another, if each leads to the other
pub carry : {A B : Type 0} {P : A → Type 0} {Q : B → Type 0} → FoundOrNot P
    → ((x : A) → P x → (y : B) × Q y) → ((y : B) → Q y → (x : A) × P x) → FoundOrNot Q
carry (Found x h) to back = let y = to x h in Found y.0 y.1
carry (NotFound isnt) to back = NotFound (λ y h. let x = back y h in isnt x.0 x.1)

-- two things, each of its form
pub both : {A B : Type 0} {P : A → Type 0} {Q : B → Type 0} → FoundOrNot P → FoundOrNot Q → FoundOrNot (λ (x : A × B). P x.0 × Q x.1)
both (Found x h) (Found y g) = Found (x, y) (h, g)
both (Found x h) (NotFound isnt) = NotFound (λ y k. isnt y.1 k.1)
both (NotFound isnt) q = NotFound (λ y k. isnt y.0 k.0)

-- the one thing of the form, if something else is true of it
pub also : {A : Type 0} {P Q : A → Type 0} → ((x y : A) → P x → P y → x ≡ y) → FoundOrNot P → ((x : A) → TrueOrNot (Q x))
    → FoundOrNot (λ x. P x × Q x)
also one (NotFound isnt) test = NotFound (λ x h. isnt x h.0)
also {A} {P} {Q} one (Found x h) test = step (test x)
  where
    step : TrueOrNot (Q x) → FoundOrNot (λ y. P y × Q y)
    step (inl q) = Found x (h, q)
    step (inr isnt) = NotFound (λ y g. isnt (subst Q (one y x g.0 h) g.1))

-- two facts are so, or not both
pub and : {P Q : Type 0} → TrueOrNot P → TrueOrNot Q → TrueOrNot (P × Q)
and (inl p) (inl q) = inl (p, q)
and (inl p) (inr isnt) = inr (λ h. isnt h.1)
and (inr isnt) q = inr (λ h. isnt h.0)

-- two numbers are the same, or not
same_number : (a b : ℕ) → TrueOrNot (a ≡ b)
same_number a b = step (eqb a b) refl
  where
    step : (t : Bool) → eqb a b ≡ t → TrueOrNot (a ≡ b)
    step true e = inl (eqb-true a b e)
    step false e = inr (λ f. let h : eqb a b ≡ true = eq-eqb a b f in cc)

-- two lists are, if that is so of what is in them
same_list : {A : Type 0} → ((x y : A) → TrueOrNot (x ≡ y)) → (a b : List A) → TrueOrNot (a ≡ b)
same_list same [] [] = inl refl
same_list same [] (y ∷ ys) = inr (λ e. cc)
same_list same (x ∷ xs) [] = inr (λ e. cc)
same_list {A} same (x ∷ xs) (y ∷ ys) = step (same x y) (same_list same xs ys)
  where
    step : TrueOrNot (x ≡ y) → TrueOrNot (xs ≡ ys) → TrueOrNot (x ∷ xs ≡ y ∷ ys)
    step (inl e) (inl f) = inl cc
    step (inl e) (inr isnt) = inr (λ f. let g : xs ≡ ys = cc in isnt g)
    step (inr isnt) r = inr (λ f. let g : x ≡ y = cc in isnt g)

-- two texts, and two lists of words
pub same_text : (a b : List ℕ) → TrueOrNot (a ≡ b)
same_text = same_list same_number

pub same_words : (a b : List (List ℕ)) → TrueOrNot (a ≡ b)
same_words = same_list same_text

-- one number is less, or the other isn't above it
pub less_or : (a b : ℕ) → (a < b) ⊎ (b ≤ a)
less_or a b = step (nat_lt a b) refl
  where
    step : (t : Bool) → nat_lt a b ≡ t → (a < b) ⊎ (b ≤ a)
    step true e = inl (search (rules, tests, e))
    step false e = inr (search (rules, tests, e))

-- a number is less than another, or not
pub less : (a b : ℕ) → TrueOrNot (a < b)
less a b = step (less_or a b)
  where
    step : (a < b) ⊎ (b ≤ a) → TrueOrNot (a < b)
    step (inl l) = inl l
    step (inr g) = inr (λ l. absurd (omega arith))
