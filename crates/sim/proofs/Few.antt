-- How many records a member can come to save.
use Rattle.std.proofs.Common.{◌≡◌, ◌+◌, ◌*◌, ◌<◌, ◌≤◌, ℕ, zero, suc, Bool, true, false, cond, ◌⊎◌, inl, inr, eqb, eq-eqb, refl, arith, List, [], ◌∷◌, length, map, ne_eqb, eqb-true}
use Rattle.std.specs.List.{AllByRecursion, IsDistinct, list_any}
use Rattle.std.proofs.lemmas.Bool.{or_cases, and_from}
use Rattle.std.proofs.lemmas.List.{length-map}
use Rattle.std.proofs.lemmas.Map.Steps.{length-le_from_distinct_below}
use Rattle.terms_prelude.specs.Terms.{Kind, Initial, Echo, Ready, Place, Value, Size, Statement, Record, Said, Decided, IsSize, FitsStep, sayings, decisions, kind_code, is_about, IsWellFormed}
use Rattle.terms.proofs.Same.{is_about-same}
use Rattle.world.specs.Laws.{IsWellFormedRecord, AreWellFormedRecords}

-- a number for each question, for its decision, and one for each kind at each place; rounds and steps count from 1 and so do
-- their digits, and the least number of a place is 12, so 4,084 more sets all of them behind the 4,096 questions
abbrev code : Record → ℕ
code (Said s) = 4084 + ((((s.place.question * 64 + s.place.origin) * 32 + s.place.round) * 3 + s.place.step) * 3 + kind_code s.kind)
code (Decided question round bit) = question

kind_below : (kind : Kind) → kind_code kind < 3
kind_below Initial = omega arith
kind_below Echo = omega arith
kind_below Ready = omega arith

step_within : (step : ℕ) (m : Value) → FitsStep step m → (1 ≤ step) × (step ≤ 3)
step_within zero m fits = absurd fits
step_within (suc zero) m fits = (omega arith, omega arith)
step_within (suc (suc zero)) m fits = (omega arith, omega arith)
step_within (suc (suc (suc zero))) m fits = (omega arith, omega arith)
step_within (suc (suc (suc (suc step)))) m fits = absurd fits

-- statements of one number are of one kind and place
same_about : (s t : Statement) (size : Size) → IsSize size → IsWellFormed size s → IsWellFormed size t → code (Said s) ≡ code (Said t) → is_about t s.kind s.place ≡ true
same_about s t size ok is be e =
    let k = kind_below s.kind in
    let l = kind_below t.kind in
    let a = step_within s.place.step s.value is.value in
    let b = step_within t.place.step t.value be.value in
    let kind : kind_code t.kind ≡ kind_code s.kind = omega arith in
    let rest : ((s.place.question * 64 + s.place.origin) * 32 + s.place.round) * 3 + s.place.step ≡ ((t.place.question * 64 + t.place.origin) * 32 + t.place.round) * 3 + t.place.step = omega arith in
    let step : t.place.step ≡ s.place.step = omega arith in
    let round : t.place.round ≡ s.place.round = omega arith in
    let origin : t.place.origin ≡ s.place.origin = omega arith in
    let question : t.place.question ≡ s.place.question = omega arith in
    and_from _ _ (eq-eqb (kind_code t.kind) (kind_code s.kind) kind)
    (and_from _ _ (eq-eqb t.place.question s.place.question question)
    (and_from _ _ (eq-eqb t.place.origin s.place.origin origin)
    (and_from _ _ (eq-eqb t.place.round s.place.round round) (eq-eqb t.place.step s.place.step step))))

none_of : (b : Bool) (m : ℕ) → cond b 1 0 + m ≡ 0 → (b ≡ false) × (m ≡ 0)
none_of true m h = absurd (omega arith)
none_of false m h = (refl, omega arith)

at_most : (b : Bool) (m : ℕ) → cond b 1 0 + m ≤ 1 → m ≤ 1
at_most true m h = omega arith
at_most false m h = omega arith

module _ (size : Size) (ok : IsSize size) where
  -- a statement that isn't said again has a number of its own
  said_apart : (s : Statement) (xs : List Record) → IsWellFormed size s → AreWellFormedRecords size xs → sayings xs s.kind s.place ≡ 0
      → AllByRecursion (λ c. eqb (code (Said s)) c ≡ false) (map code xs)
  said_apart s [] is all h = tt
  said_apart s (Said t ∷ xs) is all h =
      let n = none_of (is_about t s.kind s.place) (sayings xs s.kind s.place) h in (
        ne_eqb (code (Said s)) (code (Said t)) (λ e. let yes = same_about s t size ok is all.0 e in cc (yes, n.0)),
        said_apart s xs is all.1 n.1,
      )
  said_apart s (Decided question round bit ∷ xs) is all h = (
    ne_eqb (code (Said s)) question (λ e.
        let few = ok.few in
        let asked = all.0.0 in
        let a = step_within s.place.step s.value is.value in
        absurd (omega arith)),
    said_apart s xs is all.1 h,
  )

  -- so has a decision
  decided_apart : (question : ℕ) (xs : List Record) → question < size.questions → AreWellFormedRecords size xs → decisions xs question ≡ 0
      → AllByRecursion (λ c. eqb question c ≡ false) (map code xs)
  decided_apart question [] l all h = tt
  decided_apart question (Said t ∷ xs) l all h = (
    ne_eqb question (code (Said t)) (λ e.
        let few = ok.few in
        let a = step_within t.place.step t.value all.0.value in
        absurd (omega arith)),
    decided_apart question xs l all.1 h,
  )
  decided_apart question (Decided other round bit ∷ xs) l all h =
      let n = none_of (eqb other question) (decisions xs question) h in (
        ne_eqb question other (λ e. let yes = eq-eqb other question (omega arith) in cc (yes, n.0)),
        decided_apart question xs l all.1 n.1,
      )

  -- in a journal that says and decides everything once all numbers differ
  apart : (xs : List Record) → AreWellFormedRecords size xs → ((kind : Kind) (place : Place) → sayings xs kind place ≤ 1) → ((question : ℕ) → decisions xs question ≤ 1)
      → IsDistinct eqb (map code xs)
  unfolding IsDistinct
  apart [] all says decides = tt
  apart (Said s ∷ xs) all says decides =
      let once : 1 + sayings xs s.kind s.place ≤ 1 = rw (is_about-same s) at (says s.kind s.place) in (
        said_apart s xs all.0 all.1 (omega arith),
        apart xs all.1 (λ kind place. at_most (is_about s kind place) (sayings xs kind place) (says kind place)) decides,
      )
  apart (Decided question round bit ∷ xs) all says decides =
      let once : 1 + decisions xs question ≤ 1 = rw (eq-eqb question question refl) at (decides question) in (
        decided_apart question xs all.0.0 all.1 (omega arith),
        apart xs all.1 says (λ q. at_most (eqb question q) (decisions xs q) (decides q)),
      )

  code_below : (x : Record) → IsWellFormedRecord size x → code x < 75501568
  code_below (Said s) is =
      let k = kind_below s.kind in
      let a = step_within s.place.step s.value is.value in
      omega arith
  code_below (Decided question round bit) is = let few = ok.few in let asked = is.0 in omega arith

  codes_below : (xs : List Record) → AreWellFormedRecords size xs → (c : ℕ) → list_any (eqb c) (map code xs) ≡ true → c < 75501568
  codes_below [] all c h = cc
  codes_below (x ∷ xs) all c h = step (or_cases (eqb c (code x)) (list_any (eqb c) (map code xs)) h) (codes_below xs all.1 c)
    where
      step : (eqb c (code x) ≡ true) ⊎ (list_any (eqb c) (map code xs) ≡ true) → (list_any (eqb c) (map code xs) ≡ true → c < 75501568) → c < 75501568
      step (inl e) ih = let same = eqb-true c (code x) e in let l = code_below x all.0 in omega arith
      step (inr e) ih = ih e

  -- it has no more records than there are such numbers
  pub few_records : (xs : List Record) → AreWellFormedRecords size xs → ((kind : Kind) (place : Place) → sayings xs kind place ≤ 1) → ((question : ℕ) → decisions xs question ≤ 1)
      → length xs ≤ 75501568
  few_records xs all says decides =
      let few = length-le_from_distinct_below (map code xs) 75501568 (apart xs all says decides) (codes_below xs all) in
      let same = length-map xs code in
      omega arith
