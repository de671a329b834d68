-- What the words of a line write.
use Rattle.std.specs.Prelude.{ℕ, ◌≡◌, ◌≤◌, ◌==◌, Bool, Option, Some, None, List, [], ◌∷◌, codes}
use Rattle.std.specs.List.{slice_split}
use Rattle.numerals.specs.Numbers.{IsNumber, IsBelow, IsHexOf}
use Rattle.numerals.specs.Sentences.{bit_digit}
use Rattle.disk.specs.declared.Pick.{Pick}
use Rattle.disk.specs.declared.Pick.TheVariants.{Kept, Lost, Fill}
use Rattle.sim.specs.declared.events.Which.{Which}
use Rattle.sim.specs.declared.events.Which.TheVariants.{Next, At}

-- the words of a line: what stands before its first space, between two spaces, and behind the last
abbrev pub words_of : List ℕ → List (List ℕ)
words_of line = slice_split (λ byte. byte == 32) line

-- a member is below 2^8, a number that counts questions or members below 2^16, any other number below 2^64
abbrev pub IsMember : List ℕ → ℕ → Type 0
IsMember = IsBelow 8

abbrev pub IsCount : List ℕ → ℕ → Type 0
IsCount = IsBelow 16

abbrev pub IsLong : List ℕ → ℕ → Type 0
IsLong = IsBelow 64

-- how many statements a group may have: 1 to 256
pub record IsGroupSize (word : List ℕ) (count : ℕ) : Type 0 where
  pub number_is : IsNumber word count
  pub some : 1 ≤ count
  pub few : count ≤ 256

-- a number that is a bit
abbrev pub IsBit : List ℕ → Bool → Type 0
IsBit word bit = IsNumber word (bit_digit bit)

-- `next`, or the number of a statement
abbrev pub IsWhich : List ℕ → Which → Type 0
IsWhich word Next = word ≡ codes "next"
IsWhich word (At number) = IsLong word number

-- `off`, or a number of calls
abbrev pub IsFuse : List ℕ → Option ℕ → Type 0
IsFuse word None = word ≡ codes "off"
IsFuse word (Some calls) = IsLong word calls

-- `kept`, `lost`, or `fill` and two hexadecimal digits
abbrev pub ArePick : List (List ℕ) → Pick → Type 0
ArePick words Kept = words ≡ codes "kept" ∷ []
ArePick words Lost = words ≡ codes "lost" ∷ []
ArePick words (Fill byte) = (digits : List ℕ) × (words ≡ codes "fill" ∷ digits ∷ []) × IsHexOf digits (byte ∷ [])

-- members, one a word
abbrev pub AreMembers : List (List ℕ) → List ℕ → Type 0
AreMembers [] [] = Unit {0}
AreMembers [] (member ∷ members) = ⊥
AreMembers (word ∷ words) [] = ⊥
AreMembers (word ∷ words) (member ∷ members) = IsMember word member × AreMembers words members
