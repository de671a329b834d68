-- Lines that name slots.
use Rattle.std.specs.Prelude.{ℕ, ◌≡◌, ◌<◌, ◌≤◌, ◌⊎◌, Bool, not, None, List, [], ◌∷◌, ◌++◌, codes, drop, length, take, IfSome}
use Rattle.std.specs.Char.{is_ascii_digit}
use Rattle.std.specs.Fmt.{decimal}
use Rattle.std.specs.List.{take_while}
use Rattle.numerals.specs.Numbers.{IsBelow}
use Rattle.epochs.specs.declared.said.Said.{Said}
use Rattle.epochs.specs.declared.said.TheConstants.{MOST}
use Rattle.epochs.specs.declared.turning.Verb.{Verb}
use Rattle.epochs.specs.declared.turning.Verb.TheVariants.{Propose, Ask, Await, Transcript, State}
use Rattle.epochs.specs.declared.turning.SlotLine.{SlotLine}

-- the word of a line, and the space behind it
abbrev pub verb_text : Verb → List ℕ
verb_text Propose = codes "PROPOSE "
verb_text Ask = codes "ASK "
verb_text Await = codes "AWAIT "
verb_text Transcript = codes "TRANSCRIPT "
verb_text State = codes "STATE "

-- a byte that is no decimal digit
abbrev pub is_other : ℕ → Bool
is_other byte = not (is_ascii_digit byte)

-- the decimal digits with which a text begins
abbrev pub digits_in : List ℕ → List ℕ
digits_in text = take_while is_ascii_digit text

-- a line with this word that names a slot, in one to 20 digits
pub record IsSlotLine (line : List ℕ) (verb : Verb) : Type 0 where
  pub text : List ℕ
  pub parts : line ≡ verb_text verb ++ text
  pub some : 0 < length (digits_in text)
  pub few : length (digits_in text) ≤ 20

-- the line is the word, the digits of the slot, at most 20, and the rest, which begins with no digit; the slot is what the digits
-- write, if that is below 2^64
pub record NamesSlot (line : List ℕ) (named : SlotLine) : Type 0 where
  pub digits : List ℕ
  pub parts : line ≡ verb_text named.verb ++ (digits ++ named.rest.now)
  pub few : length digits ≤ 20
  pub slot : IfSome named.slot (IsBelow 64 digits)
  pub some : 0 < length digits
  pub all : digits_in (digits ++ named.rest.now) ≡ digits
  pub past : named.slot ≡ None → (slot : ℕ) → IsBelow 64 digits slot → ⊥

-- nothing, or the byte 13 that may stand before the one that ends a line
abbrev pub IsEnd : List ℕ → Type 0
IsEnd rest = (rest ≡ []) ⊎ (rest ≡ codes "\r")

-- a bit behind a space, and the end
abbrev pub IsBitRest : List ℕ → Type 0
IsBitRest rest = ((rest ≡ codes " 0") ⊎ (rest ≡ codes " 1")) ⊎ ((rest ≡ codes " 0\r") ⊎ (rest ≡ codes " 1\r"))

-- what stands behind the slot is what the desk takes behind this word
abbrev pub IsWholeRest : Verb → List ℕ → Type 0
IsWholeRest Propose rest = IsBitRest rest
IsWholeRest Ask rest = IsEnd rest
IsWholeRest Await rest = IsEnd rest
IsWholeRest Transcript rest = IsEnd rest
IsWholeRest State rest = IsEnd rest

-- the text is digits, at most 20, that write this number, and the end
pub record IsFollowed (text : List ℕ) (number : ℕ) : Type 0 where
  pub few : length (digits_in text) ≤ 20
  pub number_is : IsBelow 64 (digits_in text) number
  pub end : IsEnd (drop (length (digits_in text)) text)

-- a line that asks for decisions from this number on
abbrev pub IsFollowLine : List ℕ → ℕ → Type 0
IsFollowLine line number = (text : List ℕ) × (line ≡ codes "FOLLOW " ++ text) × IsFollowed text number

-- the bytes that are kept
abbrev pub said_bytes : Said → List ℕ
said_bytes said = take said.length said.bytes

-- the line for the desk of the slot's epoch: the word, the question in the slot's place, and the rest
abbrev pub question_line : Verb → ℕ → List ℕ → List ℕ
question_line verb question rest = verb_text verb ++ (decimal question ++ rest)

-- the reply that tells the first epoch that isn't closed, and the newest
abbrev pub epochs_line : ℕ → ℕ → List ℕ
epochs_line first newest = codes "EPOCHS " ++ (decimal first ++ (codes " " ++ (decimal newest ++ codes "\n")))
