-- The readings of a watch stand for what was told, and go on to.
use Rattle.std.proofs.Common.{ℕ, zero, suc, ◌≡◌, ◌+◌, ◌-◌, ◌≤◌, ◌==◌, ◌⊎◌, inl, inr, Bool, true, false, refl, sym, ap, ◌∙◌, subst, arith, length-append, Option, Some, None, List, [], ◌∷◌, ◌++◌, drop, length, slice_get, slice_set, eqb-true, if◌then◌else◌}
use Rattle.std.proofs.lemmas.Bool.Decides.{nat_tests}
use Rattle.terms_prelude.specs.Terms.{Size, count_below}
use Rattle.client.specs.Readings.{AreEnough, Reads, has_told, size_of}
use Rattle.client.specs.declared.reading.Reading.{Reading}
use Rattle.gateway.specs.Watches.{AreContradictions, Contradicts, IsKept, words_on}
use Rattle.gateway.specs.declared.watch.Told.{Told}

-- one reading more, before anybody told anything
pub kept_more : (size : Size) (readings : List Reading) (more : Reading) → Reads more [] → size_of more ≡ size
    → (place : ℕ) (words : List (ℕ × Bool)) → IsKept size (slice_get readings place) words → IsKept size (slice_get (readings ++ more ∷ []) place) words
kept_more size [] more reads is zero words none = (subst (λ (w : List (ℕ × Bool)). Reads more w) (sym none) reads, is)
kept_more size [] more reads is (suc place) words none = none
kept_more size (reading ∷ readings) more reads is zero words kept = kept
kept_more size (reading ∷ readings) more reads is (suc place) words kept = kept_more size readings more reads is place words kept

-- what is behind some places
pub get_behind : (n : ℕ) (readings : List Reading) (i : ℕ) → slice_get (drop n readings) i ≡ slice_get readings (n + i)
get_behind zero readings i = ap (λ (k : ℕ). slice_get readings k) (omega arith)
get_behind (suc n) [] i = refl
get_behind (suc n) (reading ∷ readings) i =
    let more : suc (n + i) ≡ suc n + i = omega arith in
    get_behind n readings i ∙ ap (λ (k : ℕ). slice_get (reading ∷ readings) k) more

-- what is written over at a place, and at the others
pub set_here : (readings : List Reading) (i : ℕ) (old new : Reading) → slice_get readings i ≡ Some old → slice_get (slice_set readings i new) i ≡ Some new
set_here [] i old new e = absurd (let no : ◌≡◌ {A = Option Reading} None (Some old) = e in cc)
set_here (reading ∷ readings) zero old new e = refl
set_here (reading ∷ readings) (suc i) old new e = set_here readings i old new e

pub set_there : (readings : List Reading) (i j : ℕ) (new : Reading) → (i ≡ j → ⊥) → slice_get (slice_set readings i new) j ≡ slice_get readings j
set_there [] i j new e = refl
set_there (reading ∷ readings) zero zero new e = absurd (e refl)
set_there (reading ∷ readings) zero (suc j) new e = refl
set_there (reading ∷ readings) (suc i) zero new e = refl
set_there (reading ∷ readings) (suc i) (suc j) new e = set_there readings i j new (λ same. e (ap suc same))

-- the words on a question, with one word more
pub words_here : (question : ℕ) (heard : List Told) (told : Told) → (told.question == question) ≡ true
    → words_on question (heard ++ told ∷ []) ≡ words_on question heard ++ (told.member, told.bit) ∷ []
words_here question [] told e = rw e refl
words_here question (one ∷ heard) told e = step (one.question == question) (words_here question heard told e)
  where
    step : (t : Bool) → words_on question (heard ++ told ∷ []) ≡ words_on question heard ++ (told.member, told.bit) ∷ []
        → (if t then (one.member, one.bit) ∷ words_on question (heard ++ told ∷ []) else words_on question (heard ++ told ∷ []))
        ≡ (if t then (one.member, one.bit) ∷ words_on question heard else words_on question heard) ++ (told.member, told.bit) ∷ []
    step true is = ap (λ (l : List (ℕ × Bool)). (one.member, one.bit) ∷ l) is
    step false is = is

pub words_there : (question : ℕ) (heard : List Told) (told : Told) → (told.question == question) ≡ false
    → words_on question (heard ++ told ∷ []) ≡ words_on question heard
words_there question [] told e = rw e refl
words_there question (one ∷ heard) told e = step (one.question == question) (words_there question heard told e)
  where
    step : (t : Bool) → words_on question (heard ++ told ∷ []) ≡ words_on question heard
        → (if t then (one.member, one.bit) ∷ words_on question (heard ++ told ∷ []) else words_on question (heard ++ told ∷ []))
        ≡ (if t then (one.member, one.bit) ∷ words_on question heard else words_on question heard)
    step true is = ap (λ (l : List (ℕ × Bool)). (one.member, one.bit) ∷ l) is
    step false is = is

-- a word is taken by the reading of its question, and the others stay
pub kept_taken : (size : Size) (first : ℕ) (readings : List Reading) (heard : List Told) (told : Told) (at : ℕ) (old new : Reading)
    → told.question ≡ first + at
    → slice_get readings at ≡ Some old
    → ((words : List (ℕ × Bool)) → Reads old words → Reads new (words ++ (told.member, told.bit) ∷ []))
    → size_of new ≡ size_of old
    → ((place : ℕ) → IsKept size (slice_get readings place) (words_on (first + place) heard))
    → (place : ℕ) → IsKept size (slice_get (slice_set readings at new) place) (words_on (first + place) (heard ++ told ∷ []))
kept_taken size first readings heard told at old new here was takes same each place = step (told.question == first + place) refl
  where
    kept : IsKept size (Some old) (words_on (first + at) heard)
    kept = subst (λ (r : Option Reading). IsKept size r (words_on (first + at) heard)) was (each at)

    taken : IsKept size (slice_get (slice_set readings at new) at) (words_on (first + at) heard ++ (told.member, told.bit) ∷ [])
    taken = subst (λ (r : Option Reading). IsKept size r (words_on (first + at) heard ++ (told.member, told.bit) ∷ []))
        (sym (set_here readings at old new was)) (takes (words_on (first + at) heard) kept.0, same ∙ kept.1)

    differs : at ≡ place → (told.question == first + place) ≡ false → ⊥
    differs is e = let no : (told.question == first + place) ≡ true = grind (arith, nat_tests, is, here) in cc

    step : (t : Bool) → (told.question == first + place) ≡ t
        → IsKept size (slice_get (slice_set readings at new) place) (words_on (first + place) (heard ++ told ∷ []))
    step true e =
        let question : told.question ≡ first + place = eqb-true told.question (first + place) e in
        let is : at ≡ place = omega (arith, here, question) in
        subst (λ (words : List (ℕ × Bool)). IsKept size (slice_get (slice_set readings at new) place) words)
        (sym (words_here (first + place) heard told e))
        (subst (λ (j : ℕ). IsKept size (slice_get (slice_set readings at new) j) (words_on (first + j) heard ++ (told.member, told.bit) ∷ [])) is taken)
    step false e =
        subst (λ (words : List (ℕ × Bool)). IsKept size (slice_get (slice_set readings at new) place) words)
        (sym (words_there (first + place) heard told e))
        (subst (λ (r : Option Reading). IsKept size r (words_on (first + place) heard))
        (sym (set_there readings at place new (λ is. differs is e))) (each place))

-- the reading of a question that there is has its words and its size
pub kept_at : (size : Size) (found : Option Reading) (reading : Reading) (words : List (ℕ × Bool)) → found ≡ Some reading
    → IsKept size found words → Reads reading words × (size_of reading ≡ size)
kept_at size found reading words is kept = subst (λ (r : Option Reading). IsKept size r words) is kept

-- what was found at a question that isn't before the window has its words
pub kept_found : (size : Size) (first question : ℕ) (readings : List Reading) (heard : List Told) (found : Option Reading) → first ≤ question
    → ((place : ℕ) → question ≡ first + place → found ≡ slice_get readings place)
    → ((place : ℕ) → IsKept size (slice_get readings place) (words_on (first + place) heard))
    → IsKept size found (words_on question heard)
kept_found size first question readings heard found from at each =
    let is : question ≡ first + (question - first) = omega (arith, from) in
    subst (λ (q : ℕ). IsKept size found (words_on q heard)) (sym is)
    (subst (λ (r : Option Reading). IsKept size r (words_on (first + (question - first)) heard)) (sym (at (question - first) is)) (each (question - first)))

-- the window begins later: the readings that stay have their words, and those that are new have none
pub kept_passed : (size : Size) (first next : ℕ) (readings passed : List Reading) (heard : List Told) → first ≤ next
    → ((place : ℕ) (words : List (ℕ × Bool)) → IsKept size (slice_get (drop (next - first) readings) place) words → IsKept size (slice_get passed place) words)
    → ((place : ℕ) → IsKept size (slice_get readings place) (words_on (first + place) heard))
    → (place : ℕ) → IsKept size (slice_get passed place) (words_on (next + place) heard)
kept_passed size first next readings passed heard later fills each place =
    let is : first + (next - first + place) ≡ next + place = omega (arith, later) in
    let kept : IsKept size (slice_get readings (next - first + place)) (words_on (next + place) heard) =
    subst (λ (q : ℕ). IsKept size (slice_get readings (next - first + place)) (words_on q heard)) is (each (next - first + place)) in
    fills place (words_on (next + place) heard)
    (subst (λ (r : Option Reading). IsKept size r (words_on (next + place) heard)) (sym (get_behind (next - first) readings place)) kept)

none_told : (n : ℕ) (bit : Bool) → count_below n (has_told [] bit) ≡ 0
none_told zero bit = refl
none_told (suc n) bit = let before = none_told n bit in omega (arith, before)

-- where nobody told anything nothing is decided
pub undecided : (size : Size) (words : List (ℕ × Bool)) (bit : Bool) → words ≡ [] → AreEnough size words bit → ⊥
undecided size words bit none enough =
    let many : AreEnough size [] bit = subst (λ (w : List (ℕ × Bool)). AreEnough size w bit) none enough in
    let few = none_told size.n bit in
    absurd (omega (arith, many, few))

-- an element of a list with one more
get_more : (found : List (Option Bool)) (one x : Option Bool) (i : ℕ) → slice_get (found ++ one ∷ []) i ≡ Some x
    → (slice_get found i ≡ Some x) ⊎ ((i ≡ length found) × (x ≡ one))
get_more [] one x zero e = let same : x ≡ one = cc in inr (refl, same)
get_more [] one x (suc i) e = absurd (let no : ◌≡◌ {A = Option (Option Bool)} None (Some x) = e in cc)
get_more (first ∷ found) one x zero e = inl e
get_more (first ∷ found) one x (suc i) e = step (get_more found one x i e)
  where
    step : (slice_get found i ≡ Some x) ⊎ ((i ≡ length found) × (x ≡ one))
        → (slice_get (first ∷ found) (suc i) ≡ Some x) ⊎ ((suc i ≡ length (first ∷ found)) × (x ≡ one))
    step (inl is) = inl is
    step (inr is) = inr (ap suc is.0, is.1)

-- one contradiction more
pub contradictions_more : (size : Size) (heard : List Told) (member first count : ℕ) (found : List (Option Bool)) (one : Option Bool)
    → AreContradictions size heard member first count found → Contradicts size heard member (first + count) one
    → AreContradictions size heard member first (count + 1) (found ++ one ∷ [])
contradictions_more size heard member first count found one are is = record {
  all = simp length-append (let before = are.all in omega arith);
  each = λ place x at. step place x (get_more found one x place at);
}
  where
    step : (place : ℕ) (x : Option Bool) → (slice_get found place ≡ Some x) ⊎ ((place ≡ length found) × (x ≡ one))
        → Contradicts size heard member (first + place) x
    step place x (inl old) = are.each place x old
    step place x (inr new) =
        subst (λ (p : ℕ). Contradicts size heard member (first + p) x) (sym (new.0 ∙ are.all))
        (subst (λ (y : Option Bool). Contradicts size heard member (first + count) y) (sym new.1) is)

-- a text with a byte isn't empty
pub some_text : (text : List ℕ) → false ≡ (length text == 0) → text ≡ [] → ⊥
some_text text some none = let is : (length text == 0) ≡ true = rw none refl in let no : false ≡ true = some ∙ is in cc

-- before any question there is no contradiction
pub none_found : (size : Size) (heard : List Told) (member first : ℕ) → AreContradictions size heard member first 0 []
none_found size heard member first = record {
  all = refl;
  each = λ place one at. absurd (let no : ◌≡◌ {A = Option (Option Bool)} None (Some one) = at in cc);
}
