-- What members told of the questions of a cluster or a chain, and what may be believed of it.
use Rattle.std.specs.Prelude.{ℕ, ◌≡◌, ◌<◌, ◌≤◌, ◌+◌, ◌==◌, Bool, true, false, max, min, is_some, nat_lt, Option, Some, None, List, [], ◌∷◌, length, slice_get, if◌then◌else◌}
use Rattle.terms_prelude.specs.Terms.{Size, count_below}
use Rattle.client.specs.Readings.{DecidesBy, Reads, first_word, size_of}
use Rattle.client.specs.declared.reading.Reading.{Reading}
use Rattle.gateway.specs.declared.requests.Refusal.{Refusal}
use Rattle.gateway.specs.declared.requests.Refusal.TheVariants as refusal
use Rattle.gateway.specs.declared.scopes.Scope.{Scope}
use Rattle.gateway.specs.declared.watch.Told.{Told}
use Rattle.gateway.specs.declared.watch.Watch.{Watch}
use Rattle.gateway.specs.Scopes.{window_length}

-- the words on one question, in the order in which they came
abbrev pub words_on : ℕ → List Told → List (ℕ × Bool)
words_on question [] = []
words_on question (told ∷ rest) =
    if told.question == question then (told.member, told.bit) ∷ words_on question rest else words_on question rest

-- the size of the cluster that is watched, and whether it is one cluster or a chain
unfoldable pub watch_size : Watch → Size
watch_size watch = watch.scope.size

unfoldable pub watch_scope : Watch → Scope
watch_scope watch = watch.scope

-- the first question of the window, and the slots to which the members of a chain have come
unfoldable pub watch_first : Watch → ℕ
watch_first watch = watch.first

unfoldable pub watch_heads : Watch → List ℕ
watch_heads watch = watch.heads.items

-- the question is one of the window
abbrev pub IsInWindow : Watch → ℕ → Type 0
IsInWindow watch question = (watch_first watch ≤ question) × (question < watch_first watch + window_length (watch_scope watch))

-- the reading of a question stands for its words; where there is no such question there are none
abbrev pub IsKept : Size → Option Reading → List (ℕ × Bool) → Type 0
IsKept size None words = words ≡ []
IsKept size (Some reading) words = Reads reading words × (size_of reading ≡ size)

-- the watch stands for what was told: each question of its window has its words, and the ones after it have none. The window of a
-- cluster has all questions
pub record KeepsAll (watch : Watch) (heard : List Told) : Type 0 where
  pub all : length watch.readings.items ≡ window_length watch.scope
  pub still : watch.scope.chain ≡ false → watch.first ≡ 0
  pub each : (place : ℕ) → IsKept watch.scope.size (slice_get watch.readings.items place) (words_on (watch.first + place) heard)

unfoldable pub Watches : Watch → List Told → Type 0
Watches watch heard = KeepsAll watch heard

-- why nothing is told of a question: it was before the window, or comes after it
abbrev pub refusal_at : ℕ → ℕ → ℕ → Option Refusal
refusal_at first length question =
    if nat_lt question first then Some refusal.Past else (if nat_lt question (first + length) then None else Some refusal.Question)

-- the part of a range of questions that is in the window
abbrev pub within : ℕ → ℕ → ℕ → ℕ
within first length question = min (max first question) (first + length)

-- what was told decides the question: more than t members told this bit; or nothing does
abbrev pub Decides : Size → List Told → ℕ → Option Bool → Type 0
Decides size heard question decision = DecidesBy size (words_on question heard) decision

-- the member told a bit of a question; how many members did
abbrev pub has_word : List (ℕ × Bool) → ℕ → Bool
has_word words member = is_some (first_word words member)

abbrev pub teller_count : Size → List Told → ℕ → ℕ
teller_count size heard question = count_below size.n (has_word (words_on question heard))

-- the bit that was told, where the decision is the other one
abbrev pub contradiction_in : Option Bool → Option Bool → Option Bool
contradiction_in (Some true) (Some false) = Some false
contradiction_in (Some true) (Some true) = None
contradiction_in (Some true) None = None
contradiction_in (Some false) (Some true) = Some true
contradiction_in (Some false) (Some false) = None
contradiction_in (Some false) None = None
contradiction_in None word = None

-- what the member told first, by the words on a question, where more than t members told the other bit
pub record ContradictsOn (size : Size) (words : List (ℕ × Bool)) (member : ℕ) (found : Option Bool) : Type 0 where
  pub decision : Option Bool
  pub decided : DecidesBy size words decision
  pub is : found ≡ contradiction_in decision (first_word words member)

abbrev pub Contradicts : Size → List Told → ℕ → ℕ → Option Bool → Type 0
Contradicts size heard member question found = ContradictsOn size (words_on question heard) member found

-- the same for each question from the first on, in order
pub record AreContradictions (size : Size) (heard : List Told) (member first count : ℕ) (found : List (Option Bool)) : Type 0 where
  pub all : length found ≡ count
  pub each : (place : ℕ) (one : Option Bool) → slice_get found place ≡ Some one → Contradicts size heard member (first + place) one
