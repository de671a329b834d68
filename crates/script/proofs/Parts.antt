-- The words of a slice of so many.
use Rattle.std.proofs.Common.{ℕ, ◌≡◌, ◌<◌, ◌≤◌, refl, arith, Bor, List, [], ◌∷◌, length, get_or, drop, take, take_all, ◌-◌, sym, ap, IsUtf8, codes, Bool, true, false, nat_lt, zero, suc, lit<, rules, Some, cond, ◌==◌, subst, ◌∙◌, eqb-true, slice_get, ltb-true}
use Rattle.std.proofs.lemmas.Str.{IsUtf8-from_ascii}
use Rattle.script.specs.Words.{Verb, verb_name, texts, is_empty, ends_empty}
use Rattle.script.specs.declared.step.Verb.TheVariants as verb

pub three : (ws : List (Bor (List ℕ))) (d : Bor (List ℕ)) → 3 ≤ length ws → length ws < 4
    → texts ws ≡ (get_or ws 0 d).now ∷ (get_or ws 1 d).now ∷ (get_or ws 2 d).now ∷ []
three [] d h g = absurd (omega arith)
three (a ∷ []) d h g = absurd (omega arith)
three (a ∷ b ∷ []) d h g = absurd (omega arith)
three (a ∷ b ∷ e ∷ []) d h g = refl
three (a ∷ b ∷ e ∷ f ∷ ws) d h g = absurd (omega arith)

-- one word and others
pub first_of : (ws : List (Bor (List ℕ))) (d : Bor (List ℕ)) → 1 ≤ length ws
    → texts ws ≡ (get_or ws 0 d).now ∷ texts (take (length ws - 1) (drop 1 ws))
first_of [] d h = absurd (omega arith)
first_of (a ∷ ws) d h =
    ap (λ (vs : List (Bor (List ℕ))). a.now ∷ texts vs) (sym (take_all (length (a ∷ ws) - 1) ws (omega arith)))

-- every byte is below 128
small : List ℕ → Bool
small [] = true
small (b ∷ bs) = cond (nat_lt b 128) (small bs) false

is_ascii : (bs : List ℕ) → small bs ≡ true → (i : ℕ) → get_or bs i 0 < 128
unfolding small
is_ascii [] h i = lit< tt
is_ascii (b ∷ bs) h i = step (nat_lt b 128) refl h i (is_ascii bs)
  where
    step : (t : Bool) → nat_lt b 128 ≡ t → cond t (small bs) false ≡ true → (i : ℕ)
        → (small bs ≡ true → (i : ℕ) → get_or bs i 0 < 128) → get_or (b ∷ bs) i 0 < 128
    step true e g zero go = search (ltb-true, rules)
    step true e g (suc i) go = go g i
    step false e g i go = cc

-- the name of a verb is a text
pub name_is_text : (v : Verb) → IsUtf8 (verb_name v)
unfolding small
name_is_text verb.Propose = IsUtf8-from_ascii (codes "propose") (is_ascii (codes "propose") refl)
name_is_text verb.Deliver = IsUtf8-from_ascii (codes "deliver") (is_ascii (codes "deliver") refl)
name_is_text verb.Group = IsUtf8-from_ascii (codes "group") (is_ascii (codes "group") refl)
name_is_text verb.Lie = IsUtf8-from_ascii (codes "lie") (is_ascii (codes "lie") refl)
name_is_text verb.Fuse = IsUtf8-from_ascii (codes "fuse") (is_ascii (codes "fuse") refl)
name_is_text verb.Crash = IsUtf8-from_ascii (codes "crash") (is_ascii (codes "crash") refl)
name_is_text verb.Restart = IsUtf8-from_ascii (codes "restart") (is_ascii (codes "restart") refl)
name_is_text verb.Reset = IsUtf8-from_ascii (codes "reset") (is_ascii (codes "reset") refl)
name_is_text verb.Rounds = IsUtf8-from_ascii (codes "rounds") (is_ascii (codes "rounds") refl)
name_is_text verb.Random = IsUtf8-from_ascii (codes "random") (is_ascii (codes "random") refl)
name_is_text verb.Fair = IsUtf8-from_ascii (codes "fair") (is_ascii (codes "fair") refl)

-- a list is empty where its length is 0
empty_is : (xs : List ℕ) → is_empty xs ≡ (length xs == 0)
empty_is [] = refl
empty_is (x ∷ xs) = step (length (x ∷ xs) == 0) refl
  where
    step : (t : Bool) → (length (x ∷ xs) == 0) ≡ t → false ≡ (length (x ∷ xs) == 0)
    step true e = let f : length (x ∷ xs) ≡ 0 = eqb-true (length (x ∷ xs)) 0 e in absurd (omega arith)
    step false e = sym e

-- the last of some words
pub last_is : (ws : List (Bor (List ℕ))) (w : Bor (List ℕ)) → slice_get ws (length ws - 1) ≡ Some w → ends_empty (texts ws) ≡ (length w.now == 0)
last_is [] w h = cc
last_is (a ∷ []) w h = let e : a ≡ w = cc in empty_is a.now ∙ ap (λ (v : Bor (List ℕ)). length v.now == 0) e
last_is (a ∷ b ∷ ws) w h =
    last_is (b ∷ ws) w (subst (λ i. slice_get (a ∷ b ∷ ws) i ≡ Some w) (index (length ws)) h)
  where
    index : (n : ℕ) → suc (suc n) - 1 ≡ suc (suc n - 1)
    index n = omega arith
