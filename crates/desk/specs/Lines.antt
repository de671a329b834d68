-- What the lines of clients ask.
use Rattle.std.specs.Prelude.{ℕ, ◌≡◌, ◌⊎◌, ◌-◌, ◌<◌, ◌≤◌, ◌==◌, Bool, false, true, Option, Some, None, List, [], ◌∷◌, ◌++◌, codes, length, take, slice_get, if◌then◌else◌}
use Rattle.std.specs.Str.Parse.{IsNumeral, digits_value}
use Rattle.numerals.specs.Spaces.{NoSpace}
use Rattle.desk.specs.declared.line.LineRequest.{LineRequest}
use Rattle.desk.specs.declared.line.LineRequest.TheVariants.{Propose, Ask, Await, Status, Transcript, Links, State}

-- decimal digits alone, one to five of them, that write the number
pub record IsQuestion (digits : List ℕ) (question : ℕ) : Type 0 where
  pub digits_are : IsNumeral 10 digits
  pub few : length digits ≤ 5
  pub value : digits_value 10 digits ≡ question

-- one word
pub record IsWord (text : List ℕ) : Type 0 where
  pub some : 0 < length text
  pub no_space : NoSpace text

-- the bit that a word is, none where it is another word
abbrev pub IsBitWord : List ℕ → Option Bool → Type 0
IsBitWord word (Some false) = word ≡ codes "0"
IsBitWord word (Some true) = word ≡ codes "1"
IsBitWord word None = (word ≡ codes "0" → ⊥) × (word ≡ codes "1" → ⊥)

-- digits that write the question, a space, and the word where the bit should be
pub record IsProposal (text : List ℕ) (question : ℕ) (bit : Option Bool) : Type 0 where
  pub digits : List ℕ
  pub word : List ℕ
  pub whole : text ≡ digits ++ 32 ∷ word
  pub question_is : IsQuestion digits question
  pub word_is : IsWord word
  pub bit_is : IsBitWord word bit

-- the line asks this
abbrev pub Asks : List ℕ → LineRequest → Type 0
Asks text (Propose question bit) = (rest : List ℕ) × (text ≡ codes "PROPOSE " ++ rest) × IsProposal rest question bit
Asks text (Ask question) = (digits : List ℕ) × (text ≡ codes "ASK " ++ digits) × IsQuestion digits question
Asks text (Await question) = (digits : List ℕ) × (text ≡ codes "AWAIT " ++ digits) × IsQuestion digits question
Asks text Status = text ≡ codes "STATUS"
Asks text (Transcript question) = (digits : List ℕ) × (text ≡ codes "TRANSCRIPT " ++ digits) × IsQuestion digits question
Asks text Links = text ≡ codes "LINKS"
Asks text (State question) = (digits : List ℕ) × (text ≡ codes "STATE " ++ digits) × IsQuestion digits question

-- what is asked is a proposal
abbrev pub IsPropose : LineRequest → Type 0
IsPropose (Propose question bit) = Unit {0}
IsPropose (Ask question) = ⊥
IsPropose (Await question) = ⊥
IsPropose Status = ⊥
IsPropose (Transcript question) = ⊥
IsPropose Links = ⊥
IsPropose (State question) = ⊥

-- what is asked is a proposal, or how a question stands
abbrev pub AsksLast : LineRequest → Type 0
AsksLast (Propose question bit) = Unit {0}
AsksLast (Ask question) = ⊥
AsksLast (Await question) = ⊥
AsksLast Status = ⊥
AsksLast (Transcript question) = ⊥
AsksLast Links = ⊥
AsksLast (State question) = Unit {0}

-- what is asked is none of the first three
abbrev pub AsksLonger : LineRequest → Type 0
AsksLonger (Propose question bit) = Unit {0}
AsksLonger (Ask question) = ⊥
AsksLonger (Await question) = Unit {0}
AsksLonger Status = ⊥
AsksLonger (Transcript question) = Unit {0}
AsksLonger Links = ⊥
AsksLonger (State question) = Unit {0}

-- a byte 13
abbrev pub is_return : Option ℕ → Bool
is_return None = false
is_return (Some byte) = byte == 13

-- a line without its last byte where that is a 13
abbrev pub trimmed : List ℕ → List ℕ
trimmed line = if is_return (slice_get line (length line - 1)) then take (length line - 1) line else line

-- a line of a client, which has at most 4,096 bytes, asks this
pub record LineAsks (line : List ℕ) (asked : LineRequest) : Type 0 where
  pub short : length line ≤ 4096
  pub asks : Asks (trimmed line) asked

-- The line is the first one of a request of HTTP: it ends in ` HTTP/1.` and one byte more. It is no line of a client's, but
-- a page in a browser may send it.
pub record IsRequest (line : List ℕ) : Type 0 where
  pub front : List ℕ
  pub minor : ℕ
  pub whole : trimmed line ≡ front ++ (codes " HTTP/1." ++ minor ∷ [])

-- the line begins with the first two bytes of a handshake of TLS, and is no line of a client's either
pub record IsHandshake (line : List ℕ) : Type 0 where
  pub more : List ℕ
  pub whole : line ≡ 22 ∷ 3 ∷ more

-- A browser sends the line, before any that a page or a server chose.
abbrev pub IsOfBrowser : List ℕ → Type 0
IsOfBrowser line = IsRequest line ⊎ IsHandshake line

-- the line asks for decisions from that number on, of one to five decimal digits
pub record AsksToFollow (line : List ℕ) (number : ℕ) : Type 0 where
  pub digits : List ℕ
  pub whole : trimmed line ≡ codes "FOLLOW " ++ digits
  pub number_is : IsQuestion digits number
