-- The order of an epoch's decisions.
use Rattle.std.proofs.Common.{ℕ, ◌≡◌, ◌<◌, ◌==◌, ◌&&◌, Bool, true, false, cond, not, List, [], ◌∷◌, ◌++◌, Option, None, Some, filter, length, refl, sym, ap, ap₂, ◌∙◌, arith}
use Rattle.std.specs.Prelude.{nat_lt}
use Rattle.std.specs.Option.{is_none}
use Rattle.std.proofs.lemmas.Bool.Decides.{nat_tests}
use Rattle.std.proofs.lemmas.List.{append_assoc}
use Rattle.epochs.specs.Verdicts.{first_of, first_ones, is_open, verdict_at}
use Rattle.epochs.specs.declared.verdicts.Verdicts.{Verdicts}

filter_alike : {X : Type 0} (p q : X → Bool) (xs : List X) → ((x : X) → p x ≡ q x) → filter p xs ≡ filter q xs
filter_alike p q [] alike = refl
filter_alike {X} p q (x ∷ xs) alike = ap₂ (λ (b : Bool) (l : List X). cond b (x ∷ l) l) (alike x) (filter_alike p q xs alike)

filter_twice : {X : Type 0} (p q : X → Bool) (xs : List X) → filter p (filter q xs) ≡ filter (λ x. q x && p x) xs
filter_twice p q [] = refl
filter_twice {X} p q (x ∷ xs) = by (q x) (filter_twice p q xs) where
  by : (b : Bool) → filter p (filter q xs) ≡ filter (λ x. q x && p x) xs
      → filter p (cond b (x ∷ filter q xs) (filter q xs)) ≡ cond (b && p x) (x ∷ filter (λ x. q x && p x) xs) (filter (λ x. q x && p x) xs)
  by true same = ap (λ (l : List X). cond (p x) (x ∷ l) l) same
  by false same = same

-- one question more is behind those before if it was open, and else nothing changes
one_more : (now next : ℕ → Bool) (order : List ℕ) (question : ℕ) (later : List ℕ) → ((x : ℕ) → next x ≡ (not (x == question) && now x))
    → order ++ filter now (first_ones (question ∷ later)) ≡ cond (now question) (order ++ question ∷ []) order ++ filter next (first_ones later)
one_more now next order question later is =
    let others : ℕ → Bool = λ x. not (x == question) in
    by (now question) (filter now (filter others (first_ones later))) (filter next (first_ones later))
    (filter_twice now others (first_ones later) ∙ sym (filter_alike next (λ x. others x && now x) (first_ones later) is))
  where
    by : (b : Bool) (before behind : List ℕ) → before ≡ behind → order ++ cond b (question ∷ before) before ≡ cond b (order ++ question ∷ []) order ++ behind
    by true before behind same = ap (λ (l : List ℕ). order ++ question ∷ l) same ∙ sym (append_assoc order (question ∷ []) behind)
    by false before behind same = ap (λ (l : List ℕ). order ++ l) same

-- what is open once a question was decided was open before, and isn't that one
open_after : (old new : Verdicts) (question : ℕ) (bit : Bool) → length new.cells.items ≡ length old.cells.items
    → ((q : ℕ) → q < length old.cells.items → verdict_at new q ≡ first_of (verdict_at old q) (cond (question == q) (Some bit) None))
    → (x : ℕ) → is_open new x ≡ (not (x == question) && is_open old x)
open_after old new question bit size decided x = by (nat_lt x (length old.cells.items)) refl where
  within : (x n : ℕ) → nat_lt x n ≡ true → x < n
  within x n is = grind (arith, nat_tests, is)

  turned : (x y : ℕ) → (x == y) ≡ (y == x)
  turned x y = grind (arith, nat_tests)

  inner : (was : Option Bool) (e : Bool) → is_none (first_of was (cond e (Some bit) None)) && true ≡ (not e && (is_none was && true))
  inner (Some b) true = refl
  inner (Some b) false = refl
  inner None true = refl
  inner None false = refl

  outer : (a b c : Bool) → (a && false) ≡ (b && (c && false))
  outer true true true = refl
  outer true true false = refl
  outer true false c = refl
  outer false true true = refl
  outer false true false = refl
  outer false false c = refl

  by : (is : Bool) → nat_lt x (length old.cells.items) ≡ is → is_open new x ≡ (not (x == question) && is_open old x)
  by true is =
      ap₂ (λ (v : Option Bool) (n : ℕ). is_none v && nat_lt x n) (decided x (within x (length old.cells.items) is)) size
      ∙ ap (λ (b : Bool). is_none (first_of (verdict_at old x) (cond (question == x) (Some bit) None)) && b) is
      ∙ inner (verdict_at old x) (question == x)
      ∙ ap₂ (λ (e b : Bool). not e && (is_none (verdict_at old x) && b)) (turned question x) (sym is)
  by false is =
      ap (λ (n : ℕ). is_none (verdict_at new x) && nat_lt x n) size
      ∙ ap (λ (b : Bool). is_none (verdict_at new x) && b) is
      ∙ outer (is_none (verdict_at new x)) (not (x == question)) (is_none (verdict_at old x))
      ∙ ap (λ (b : Bool). not (x == question) && (is_none (verdict_at old x) && b)) (sym is)

-- the order once a decision is read
pub decision_read : (old new : Verdicts) (question : ℕ) (bit : Bool) → length new.cells.items ≡ length old.cells.items
    → ((q : ℕ) → q < length old.cells.items → verdict_at new q ≡ first_of (verdict_at old q) (cond (question == q) (Some bit) None))
    → new.order.items ≡ cond (is_open old question) (old.order.items ++ question ∷ []) old.order.items
    → (later : List ℕ) → new.order.items ++ filter (is_open new) (first_ones later) ≡ old.order.items ++ filter (is_open old) (first_ones (question ∷ later))
decision_read old new question bit size decided order later =
    ap (λ (l : List ℕ). l ++ filter (is_open new) (first_ones later)) order
    ∙ sym (one_more (is_open old) (is_open new) old.order.items question later (open_after old new question bit size decided))
