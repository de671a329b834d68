-- What members told of a question, and what may be believed of it.
use Rattle.std.specs.Prelude.{ℕ, ◌≡◌, ◌<◌, ◌==◌, Bool, true, false, Option, Some, None, List, [], ◌∷◌, ◌++◌, length, nat_lt, option_map, if◌then◌else◌, MatchOption}
use Rattle.std.specs.Bool.{beq}
use Rattle.terms_prelude.specs.Terms.{Size, count_below, plain, value_is}
use Rattle.votes.specs.Votes.{value_of}
use Rattle.votes.specs.declared.Votes.{Votes}
use Rattle.client.specs.declared.reading.Reading.{Reading}

-- what the member told first
abbrev pub first_word : List (ℕ × Bool) → ℕ → Option Bool
first_word [] member = None
first_word (word ∷ words) member = if word.0 == member then Some word.1 else first_word words member

-- it told this bit first
abbrev pub is_bit : Option Bool → Bool → Bool
is_bit None bit = false
is_bit (Some told) bit = beq told bit

abbrev pub has_told : List (ℕ × Bool) → Bool → ℕ → Bool
has_told words bit member = is_bit (first_word words member) bit

-- more than t members told this bit, of each its first word
abbrev pub AreEnough : Size → List (ℕ × Bool) → Bool → Type 0
AreEnough size words bit = size.t < count_below size.n (has_told words bit)

-- this is the first bit that more than t members told
pub record IsDecision (size : Size) (words : List (ℕ × Bool)) (bit : Bool) : Type 0 where
  pub front : List (ℕ × Bool)
  pub rest : List (ℕ × Bool)
  pub whole : words ≡ front ++ rest
  pub enough : AreEnough size front bit
  pub first : (earlier more : List (ℕ × Bool)) (other : Bool) → front ≡ earlier ++ more → 0 < length more → AreEnough size earlier other → ⊥

-- no bit was told by more than t
abbrev pub HasNoDecision : Size → List (ℕ × Bool) → Type 0
HasNoDecision size words = (bit : Bool) → AreEnough size words bit → ⊥

abbrev pub DecidesBy : Size → List (ℕ × Bool) → Option Bool → Type 0
DecidesBy size words None = HasNoDecision size words
DecidesBy size words (Some bit) = IsDecision size words bit

-- how many votes there are for the bit
abbrev pub votes_for : Size → Votes → Bool → ℕ
votes_for size votes bit = count_below size.n (λ member. value_is (value_of false votes member) (plain bit))

-- the decision where the bit has these votes: the one before, if there was one
abbrev pub decision_with : Size → Votes → Option Bool → Bool → Option Bool
decision_with size votes None bit = if nat_lt size.t (votes_for size votes bit) then Some bit else None
decision_with size votes (Some decided) bit = Some decided

-- the size that the reading is for
unfoldable pub size_of : Reading → Size
size_of reading = reading.size

-- the reading stands for these words: the first of each member, and what they decide
pub record StandsFor (reading : Reading) (words : List (ℕ × Bool)) : Type 0 where
  pub votes : (member : ℕ) → value_of false reading.votes member ≡ option_map plain (first_word words member)
  pub decides : DecidesBy reading.size words reading.decision

unfoldable pub Reads : Reading → List (ℕ × Bool) → Type 0
Reads reading words = StandsFor reading words
