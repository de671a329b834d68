-- Lists of asks beside the list of the seconds in which they were heard.
use Rattle.std.proofs.Common.{ℕ, ◌≡◌, ◌<◌, ◌≤◌, zero, suc, Bool, true, false, cond, List, [], ◌∷◌, ◌++◌, length, filter, take, drop, get_or, set, refl, sym, ap, ap₂, ◌∙◌, subst, arith, append-nil, length-set}
use Rattle.std.specs.List.{zip, remove, Contains}
use Rattle.epochs.specs.Asking.{tested_at}
use Rattle.std.proofs.lemmas.List.{get_or-set_same}
use Rattle.std.proofs.lemmas.List.Elements.{Contains-push, filter-append}
use Rattle.std.proofs.lemmas.Slice.Zip.{get_or-zip, length-zip}

-- of a list the front, and of the rest what passes
abbrev pub passed_from : {X : Type 0} → (X → Bool) → ℕ → List X → List X
passed_from p k all = take k all ++ filter p (drop k all)

pub zip-remove : {K X : Type 0} (ks : List K) (xs : List X) (i : ℕ) → length xs ≡ length ks → zip (remove ks i) (remove xs i) ≡ remove (zip ks xs) i
zip-remove [] [] zero e = refl
zip-remove [] [] (suc i) e = refl
zip-remove [] (x ∷ xs) i e = absurd (omega (arith, e))
zip-remove (k ∷ ks) [] i e = absurd (omega (arith, e))
zip-remove (k ∷ ks) (x ∷ xs) zero e = refl
zip-remove {K} {X} (k ∷ ks) (x ∷ xs) (suc i) e = ap (λ (l : List (K × X)). (k, x) ∷ l) (zip-remove ks xs i (omega (arith, e)))

pub zip-push : {K X : Type 0} (ks : List K) (xs : List X) (k : K) (x : X) → length xs ≡ length ks → zip (ks ++ k ∷ []) (xs ++ x ∷ []) ≡ zip ks xs ++ (k, x) ∷ []
zip-push [] [] k x e = refl
zip-push [] (y ∷ ys) k x e = absurd (omega (arith, e))
zip-push (j ∷ js) [] k x e = absurd (omega (arith, e))
zip-push {K} {X} (j ∷ js) (y ∷ ys) k x e = ap (λ (l : List (K × X)). (j, y) ∷ l) (zip-push js ys k x (omega (arith, e)))

pub zip-pushed : {K X : Type 0} (ks ks' : List K) (xs xs' : List X) (k : K) (x : X) → ks' ≡ ks ++ k ∷ [] → xs' ≡ xs ++ x ∷ [] → length xs ≡ length ks → zip ks' xs' ≡ zip ks xs ++ (k, x) ∷ []
zip-pushed ks ks' xs xs' k x first second paired = ap₂ zip first second ∙ zip-push ks xs k x paired

pub tested_at-gone : {X : Type 0} (p : X → Bool) (k : ℕ) (all : List X) (d : X) → k < length all → p (get_or all k d) ≡ false → remove all k ≡ tested_at p k all
tested_at-gone p k [] d within gone = absurd (omega (arith, within))
tested_at-gone {X} p zero (x ∷ xs) d within gone = ap (λ (b : Bool). cond b (x ∷ []) [] ++ xs) (sym gone)
tested_at-gone {X} p (suc k) (x ∷ xs) d within gone = ap (λ (l : List X). x ∷ l) (tested_at-gone p k xs d (omega (arith, within)) gone)

pub tested_at-kept : {X : Type 0} (p : X → Bool) (k : ℕ) (all : List X) (d : X) → k < length all → p (get_or all k d) ≡ true → all ≡ tested_at p k all
tested_at-kept p k [] d within kept = absurd (omega (arith, within))
tested_at-kept {X} p zero (x ∷ xs) d within kept = ap (λ (b : Bool). cond b (x ∷ []) [] ++ xs) (sym kept)
tested_at-kept {X} p (suc k) (x ∷ xs) d within kept = ap (λ (l : List X). x ∷ l) (tested_at-kept p k xs d (omega (arith, within)) kept)

pub passed_from-tested : {X : Type 0} (p : X → Bool) (k : ℕ) (all : List X) → k < length all → tested_at p k (passed_from p (suc k) all) ≡ passed_from p k all
passed_from-tested p k [] within = absurd (omega (arith, within))
passed_from-tested {X} p zero (x ∷ xs) within = by (p x) where
  by : (b : Bool) → cond b (x ∷ []) [] ++ filter p xs ≡ cond b (x ∷ filter p xs) (filter p xs)
  by true = refl
  by false = refl
passed_from-tested {X} p (suc k) (x ∷ xs) within = ap (λ (l : List X). x ∷ l) (passed_from-tested p k xs (omega (arith, within)))

pub passed_from-all : {X : Type 0} (p : X → Bool) (all : List X) (k : ℕ) → length all ≤ k → passed_from p k all ≡ all
passed_from-all p [] zero most = refl
passed_from-all p [] (suc k) most = refl
passed_from-all p (x ∷ xs) zero most = absurd (omega (arith, most))
passed_from-all {X} p (x ∷ xs) (suc k) most = ap (λ (l : List X). x ∷ l) (passed_from-all p xs k (omega (arith, most)))

-- another second at a place that fails the test leaves the others as they are
pub filter-heard : {K X : Type 0} (p : K → Bool) (ks : List K) (xs : List X) (i : ℕ) (x : X) (d : K) → p (get_or ks i d) ≡ false → i < length ks
    → filter (λ (one : K × X). p one.0) (zip ks (set xs i x)) ≡ filter (λ (one : K × X). p one.0) (zip ks xs)
filter-heard p [] xs i x d fails within = absurd (omega (arith, within))
filter-heard p (k ∷ ks) [] zero x d fails within = refl
filter-heard p (k ∷ ks) [] (suc i) x d fails within = refl
filter-heard {K} {X} p (k ∷ ks) (y ∷ ys) zero x d fails within =
    ap (λ (b : Bool). cond b ((k, x) ∷ filter (λ (one : K × X). p one.0) (zip ks ys)) (filter (λ (one : K × X). p one.0) (zip ks ys))) fails
    ∙ sym (ap (λ (b : Bool). cond b ((k, y) ∷ filter (λ (one : K × X). p one.0) (zip ks ys)) (filter (λ (one : K × X). p one.0) (zip ks ys))) fails)
filter-heard {K} {X} p (k ∷ ks) (y ∷ ys) (suc i) x d fails within =
    ap (λ (l : List (K × X)). cond (p k) ((k, y) ∷ l) l) (filter-heard p ks ys i x d fails (omega (arith, within)))

pub contains-pushed : {K X : Type 0} (ks ks' : List K) (xs xs' : List X) (k : K) (x : X) → ks' ≡ ks ++ k ∷ [] → xs' ≡ xs ++ x ∷ [] → length xs ≡ length ks → Contains (zip ks' xs') (k, x)
contains-pushed {K} {X} ks ks' xs xs' k x first second paired =
    subst (λ (l : List (K × X)). Contains l (k, x)) (sym (zip-pushed ks ks' xs xs' k x first second paired)) (Contains-push (zip ks xs) (k, x))

-- what doesn't pass the test may be pushed
pub filter-pushed : {K X : Type 0} (p : K → Bool) (ks ks' : List K) (xs xs' : List X) (k : K) (x : X) → p k ≡ false → ks' ≡ ks ++ k ∷ [] → xs' ≡ xs ++ x ∷ [] → length xs ≡ length ks
    → filter (λ (one : K × X). p one.0) (zip ks' xs') ≡ filter (λ (one : K × X). p one.0) (zip ks xs)
filter-pushed {K} {X} p ks ks' xs xs' k x fails first second paired =
    let q : (K × X) → Bool = λ one. p one.0 in
    ap (filter q) (zip-pushed ks ks' xs xs' k x first second paired)
    ∙ filter-append q (zip ks xs) ((k, x) ∷ [])
    ∙ ap (λ (b : Bool). filter q (zip ks xs) ++ cond b ((k, x) ∷ []) []) fails
    ∙ append-nil (filter q (zip ks xs))

pub contains-heard : {K X : Type 0} (ks : List K) (xs : List X) (at : ℕ) (k : K) (x : X) → at < length ks → length xs ≡ length ks → get_or ks at k ≡ k → Contains (zip ks (set xs at x)) (k, x)
contains-heard ks xs at k x within paired is =
    let size = length-set xs at x in
    let both = length-zip ks (set xs at x) in
    (at, omega arith, get_or-zip ks (set xs at x) at (k, x) within (omega arith) ∙ ap₂ (λ a b. (a, b)) is (get_or-set_same xs at x x (omega arith)))
