-- What is noted of an epoch that runs, at the first that has its number.
use Rattle.std.proofs.Common.{ℕ, ◌≡◌, ◌≢◌, ◌==◌, ◌||◌, Bool, true, false, cond, List, [], ◌∷◌, Option, None, Some, get_or, set, refl, sym, ap, ◌∙◌, arith, tests}
use Rattle.std.specs.List.{find, list_any, position, position_or_len, slice_get}
use Rattle.std.specs.Option.{option_map}
use Rattle.std.proofs.lemmas.Bool.{eqb-true}
use Rattle.std.proofs.lemmas.Bool.Decides.{nat_tests}
use Rattle.std.proofs.lemmas.List.Sums.{position_or_len_is}
use Rattle.std.proofs.lemmas.List.Folds.{find_at, find-set, find_past}
use Rattle.std.proofs.lemmas.List.Quantifiers.{position-Some}
use Rattle.std.proofs.lemmas.Option.{none-some, slice_get_past, slice_get-get_or}
use Rattle.epochs.specs.declared.running.Running.{Running}
use Rattle.epochs.specs.Reports.{place_in, running_in}

-- what has no place isn't found
pub find-None : {X : Type 0} (p : X → Bool) (xs : List X) → position p xs ≡ None → find p xs ≡ None
find-None p xs none = find_at p xs ∙ slice_get_past xs (position_or_len p xs) (grind (arith, tests))

-- where none is found none passes
pub none_passes : {X : Type 0} (p : X → Bool) (xs : List X) → find p xs ≡ None → list_any p xs ≡ false
none_passes p [] none = refl
none_passes {X} p (x ∷ xs) none = by (p x) (none_passes p xs) none where
  by : (b : Bool) → (find p xs ≡ None → list_any p xs ≡ false) → ◌≡◌ {A = Option X} (cond b (Some x) (find p xs)) None → (b || list_any p xs) ≡ false
  by true rest some = absurd (none-some x (sym some))
  by false rest later = rest later

-- the first that passes is changed to one that passes
find-changed : {X : Type 0} (p : X → Bool) (f : X → X) (xs : List X) (at : ℕ) (x y : X) → position p xs ≡ Some at → x ≡ get_or xs at x → y ≡ f x → p y ≡ true
    → (find p (set xs at y) ≡ Some y) × (find p (set xs at y) ≡ option_map f (find p xs))
find-changed {X} p f xs at x y placed read changed passes =
    let found = position-Some p xs at x placed in
    let first : position_or_len p xs ≡ at = position_or_len_is p xs at x (omega (arith, found.0)) found.2 (λ _. found.1) in
    let old : find p xs ≡ Some x = find_at p xs ∙ ap (slice_get xs) first ∙ slice_get-get_or xs at x found.0 ∙ ap (λ (z : X). Some z) (sym read) in
    let new : find p (set xs at y) ≡ Some y = find-set p xs at y (sym first) found.0 passes in
    (new, new ∙ ap (λ (z : X). Some z) changed ∙ sym (ap (option_map f) old))

-- the epoch at a place
epoch_at : (running : List Running) (epoch at : ℕ) (one : Running) → place_in running epoch ≡ Some at → one ≡ get_or running at one → (one.epoch == epoch) ≡ true
epoch_at running epoch at one placed read =
    let p : Running → Bool = λ (r : Running). r.epoch == epoch in
    ap p read ∙ (position-Some p running at one placed).1

pub noted_there : (running : List Running) (epoch at : ℕ) (f : Running → Running) (one new : Running) → place_in running epoch ≡ Some at → one ≡ get_or running at one → new ≡ f one
    → (f one).epoch ≡ one.epoch
    → (running_in (set running at new) epoch ≡ Some new) × (running_in (set running at new) epoch ≡ option_map f (running_in running epoch))
noted_there running epoch at f one new placed read changed keeps =
    let p : Running → Bool = λ (r : Running). r.epoch == epoch in
    find-changed p f running at one new placed read changed (ap p changed ∙ ap (λ (e : ℕ). e == epoch) keeps ∙ epoch_at running epoch at one placed read)

pub noted_nowhere_else : (running : List Running) (epoch at : ℕ) (f : Running → Running) (one new : Running) (other : ℕ) → place_in running epoch ≡ Some at → one ≡ get_or running at one → new ≡ f one
    → (f one).epoch ≡ one.epoch → other ≢ epoch → running_in (set running at new) other ≡ running_in running other
noted_nowhere_else running epoch at f one new other placed read changed keeps differs =
    let q : Running → Bool = λ (r : Running). r.epoch == other in
    let same : one.epoch ≡ epoch = eqb-true one.epoch epoch (epoch_at running epoch at one placed read) in
    let fails : (one.epoch == other) ≡ false = fails_at one.epoch epoch other same differs in
    find_past q running at new one (ap q (sym read) ∙ fails) (ap q changed ∙ ap (λ (e : ℕ). e == other) keeps ∙ fails)
  where
    fails_at : (here epoch other : ℕ) → here ≡ epoch → other ≢ epoch → (here == other) ≡ false
    fails_at here epoch other same differs = grind (arith, nat_tests)
