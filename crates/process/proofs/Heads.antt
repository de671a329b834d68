-- Lines that begin with a head.
use Rattle.std.proofs.Common.{rules, tests, ℕ, ◌≡◌, ◌==◌, ◌+◌, ◌<◌, Bool, true, false, cond, refl, sym, subst, List, [], ◌∷◌, ◌++◌, drop, get_or, length, Option, Some, None, IfSome, MatchOption, option_map, eqb-true, Bor}
use Rattle.std.proofs.lemmas.List.{drop_more}
use Rattle.commands.specs.TextLines.{texts}
use Rattle.process.specs.Status.{first_with, rest_of}

whole : (head rest : List ℕ) → rest_of head (head ++ rest) ≡ Some rest
whole [] rest = refl
whole (h ∷ head) rest =
    let same : (h == h) ≡ true = search (rules, tests) in
    rw same (whole head rest)

none : (head line : List ℕ) → ((rest : List ℕ) → line ≡ head ++ rest → ⊥) → rest_of head line ≡ None
none [] line never = absurd (never line refl)
none (h ∷ head) [] never = refl
none (h ∷ head) (b ∷ line) never = step (h == b) refl (λ e. none head line (λ rest is. never rest (let same : h ≡ b = eqb-true h b e in cc)))
  where
    step : (t : Bool) → (h == b) ≡ t → ((h == b) ≡ true → rest_of head line ≡ None) → cond t (rest_of head line) None ≡ None
    step true e go = go e
    step false e go = refl

-- what is found behind a head is what stands there
pub rest_is : (r : Option (Bor (List ℕ))) (head line : List ℕ) → IfSome r (λ rest. line ≡ head ++ rest.now)
    → ((rest : List ℕ) → line ≡ head ++ rest → MatchOption r ⊥ (λ found. found.now ≡ rest)) → option_map (λ rest. rest.now) r ≡ rest_of head line
rest_is (Some rest) head line some exact = sym (subst (λ (l : List ℕ). rest_of head l ≡ Some rest.now) (sym some) (whole head rest.now))
rest_is None head line some exact = sym (none head line (λ rest is. exact rest is))

-- a line that begins with the head is the first that is left
pub met : (d : Bor (List ℕ)) (head : List ℕ) (lines : List (Bor (List ℕ))) (i : ℕ) (found : Option (List ℕ)) (rest : List ℕ) → i < length lines
    → found ≡ rest_of head (get_or lines i d).now → found ≡ Some rest → first_with head (texts (drop i lines)) ≡ Some rest
met d head lines i found rest below is some = rw (drop_more lines i d below, sym is, some) refl

-- and one that doesn't is not
pub unmet : (d : Bor (List ℕ)) (head : List ℕ) (lines : List (Bor (List ℕ))) (i : ℕ) (found : Option (List ℕ)) → i < length lines
    → found ≡ rest_of head (get_or lines i d).now → found ≡ None → first_with head (texts (drop (i + 1) lines)) ≡ first_with head (texts (drop i lines))
unmet d head lines i found below is empty = rw (drop_more lines i d below, sym is, empty) refl
