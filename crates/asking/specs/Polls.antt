-- What is made of all members' words on one question.
use Rattle.std.specs.Prelude.{ℕ, ◌≡◌, ◌≢◌, ◌≤◌, ◌<◌, ◌⊎◌, Bool, true, false, Option, Some, None, List, [], ◌∷◌, ◌++◌, option_map, slice_get}
use Rattle.std.specs.Io.KnownBytes.{Appends}
use Rattle.terms_prelude.specs.Terms.{Size}
use Rattle.client.specs.Readings.{DecidesBy, HasNoDecision, IsDecision, Reads, size_of}
use Rattle.client.specs.declared.reading.Reading.{Reading}
use Rattle.commands.specs.Replies.{SaysSame}
use Rattle.commands.specs.Surveys.{IsWord, later_word}
use Rattle.commands.specs.Talks.{decision_reply}
use Rattle.commands.specs.declared.survey.Word.{Word}
use Rattle.commands.specs.declared.survey.Word.TheVariants.{Silent, Undecided, Decided, Other}
use Rattle.asking.specs.declared.asking_all.Survey.{Survey}
use Rattle.asking.specs.declared.board.News.{News}

-- the word that a member's reply is, or that none came
abbrev pub IsWordOfReply : Option (List ℕ) → Word → Type 0
IsWordOfReply None word = word ≡ Silent
IsWordOfReply (Some reply) word = IsWord reply word

abbrev pub IsWordOf : News → Word → Type 0
IsWordOf news word = IsWordOfReply (option_map (λ reply. reply.items) news.reply) word

-- the words that decide
abbrev pub is_decided : Word → Bool
is_decided Silent = false
is_decided Undecided = false
is_decided (Decided bit) = true
is_decided Other = false

-- the word of a member that replied nothing
abbrev pub is_silent : Word → Bool
is_silent Silent = true
is_silent Undecided = false
is_silent (Decided bit) = false
is_silent Other = false

-- the bit that a member told is the reading's, if it told one and there is such a member; and nothing else is
pub record Takes (old : Reading) (member : ℕ) (bit : Option Bool) (new : Reading) : Type 0 where
  pub told : (one : Bool) (words : List (ℕ × Bool)) → bit ≡ Some one → member < (size_of old).n → Reads old words
      → Reads new (words ++ (member, one) ∷ [])
  pub nothing : bit ≡ None → new ≡ old
  pub strangers : (size_of old).n ≤ member → new ≡ old
  pub size : size_of new ≡ size_of old

-- the decision that a word tells
abbrev pub bit_of : Word → Option Bool
bit_of Silent = None
bit_of Undecided = None
bit_of (Decided bit) = Some bit
bit_of Other = None

-- the member's word is its later one, and those of the others stay
pub record IsReplaced (old : List Word) (member : ℕ) (word : Word) (new : List Word) : Type 0 where
  pub own : slice_get new member ≡ option_map (λ before. later_word before word) (slice_get old member)
  pub others : (m : ℕ) → m ≢ member → slice_get new m ≡ slice_get old m

-- a member's word is read and noted
pub record Notes (old : Survey) (member : ℕ) (word : Word) (new : Survey) : Type 0 where
  pub read : Takes old.reading member (bit_of word) new.reading
  pub noted : IsReplaced old.words.items member word new.words.items

-- the status for what members told: 0 for a decision, and 1 for none
abbrev pub HasStatusFor : Size → List (ℕ × Bool) → ℕ → Type 0
HasStatusFor size words status = ((status ≡ 0) × (bit : Bool) × IsDecision size words bit) ⊎ ((status ≡ 1) × HasNoDecision size words)

-- what is printed is the decision that members' words make believable, or that there is none: as a line, or as an object that says
-- the same
pub record TellsWords (size : Size) (words : List (ℕ × Bool)) (json : Bool) (old new : Option (List ℕ)) : Type 0 where
  pub decision : Option Bool
  pub decides : DecidesBy size words decision
  pub line : json ≡ false → Appends old new (decision_reply decision ++ 10 ∷ [])
  pub object : json ≡ true → (object : List ℕ) × SaysSame (decision_reply decision) object × Appends old new (object ++ 10 ∷ [])
