-- Which word of a line of a script is wrong.
use Rattle.std.specs.Prelude.{ℕ, zero, suc, ◌≡◌, ◌⊎◌, ◌≤◌, ◌+◌, ◌%◌, ◌==◌, ◌||◌, nat_lt, not, false, Bool, List, [], ◌∷◌, ◌++◌, Option, Some, None, codes, length, slice_get, ⊤}
use Rattle.std.specs.List.{list_any, slice_split}
use Rattle.std.specs.Char.{is_ascii_hexdigit}
use Rattle.std.specs.Fmt.{decimal}
use Rattle.numerals.specs.Numbers.{IsBelow}
use Rattle.troubles.specs.Forms.{name_text}
use Rattle.troubles.specs.declared.forms.Order.{Order}
use Rattle.troubles.specs.declared.forms.Order.TheVariants as order
use Rattle.troubles.specs.declared.misfits.Part.{Part}
use Rattle.troubles.specs.declared.misfits.Part.TheVariants as part

-- what a word has to be, in words
abbrev pub part_text : Part → List ℕ
part_text (part.Name o) = name_text o
part_text part.Member = codes "a member, 0 to 255"
part_text part.Question = codes "a question, 0 to 65535"
part_text part.Bit = codes "a bit, 0 or 1"
part_text part.Which = codes "`next` or a number"
part_text part.Count = codes "a number from 1 to 256"
part_text part.Digits = codes "an even count of hexadecimal digits"
part_text part.Calls = codes "`off` or a number"
part_text part.Left = codes "`kept`, `lost` or `fill`"
part_text part.Byte = codes "two hexadecimal digits"
part_text part.Small = codes "a number from 0 to 65535"
part_text part.Number = codes "a number below 2^64"

-- what the words behind the name have to be
abbrev pub parts_of : Order → Option Part × Option Part × Option Part
parts_of order.Propose = (Some part.Member, Some part.Question, Some part.Bit)
parts_of order.Deliver = (Some part.Member, Some part.Member, Some part.Which)
parts_of order.Group = (Some part.Member, Some part.Member, Some part.Count)
parts_of order.Lie = (Some part.Member, Some part.Member, Some part.Digits)
parts_of order.Fuse = (Some part.Member, Some part.Calls, None)
parts_of order.Crash = (Some part.Member, Some part.Left, None)
parts_of order.Fill = (Some part.Member, Some part.Left, Some part.Byte)
parts_of order.Restart = (Some part.Member, None, None)
parts_of order.Reset = (Some part.Member, Some part.Member, None)
parts_of order.Rounds = (Some part.Number, None, None)
parts_of order.Random = (Some part.Number, None, None)
parts_of order.Fair = (Some part.Number, None, None)
parts_of order.Seed = (Some part.Number, None, None)
parts_of order.Members = (Some part.Small, None, None)
parts_of order.Liars = (Some part.Small, None, None)
parts_of order.Questions = (Some part.Small, None, None)
parts_of order.Listed = (None, None, None)
parts_of order.Other = (None, None, None)

-- what the word at a place has to be
abbrev pub part_at : Order → ℕ → Option Part
part_at o zero = Some (part.Name o)
part_at o (suc zero) = (parts_of o).0
part_at o (suc (suc zero)) = (parts_of o).1
part_at o (suc (suc (suc zero))) = (parts_of o).2
part_at o more = None

-- no hexadecimal digit
abbrev pub is_other : ℕ → Bool
is_other byte = not (is_ascii_hexdigit byte)

-- no even count of hexadecimal digits, at least two
abbrev pub is_no_hex : List ℕ → Bool
is_no_hex word = nat_lt (length word) 2 || (length word % 2 == 1) || list_any is_other word

-- the word is what has to stand there
abbrev pub IsPart : Part → List ℕ → Type 0
IsPart (part.Name o) word = word ≡ name_text o
IsPart part.Member word = (n : ℕ) × IsBelow 8 word n
IsPart part.Question word = (n : ℕ) × IsBelow 16 word n
IsPart part.Bit word = (n : ℕ) × IsBelow 64 word n × (n ≤ 1)
IsPart part.Which word = (word ≡ codes "next") ⊎ ((n : ℕ) × IsBelow 64 word n)
IsPart part.Count word = (n : ℕ) × IsBelow 16 word n × (1 ≤ n) × (n ≤ 256)
IsPart part.Digits word = is_no_hex word ≡ false
IsPart part.Calls word = (word ≡ codes "off") ⊎ ((n : ℕ) × IsBelow 64 word n)
IsPart part.Left word = (word ≡ codes "kept") ⊎ (word ≡ codes "lost") ⊎ (word ≡ codes "fill")
IsPart part.Byte word = (length word ≡ 2) × (is_no_hex word ≡ false)
IsPart part.Small word = (n : ℕ) × IsBelow 16 word n
IsPart part.Number word = (n : ℕ) × IsBelow 64 word n

-- what stands at a place isn't what has to stand there
abbrev pub Misfits : Option Part → Option (List ℕ) → Type 0
Misfits None None = ⊥
Misfits (Some part) None = ⊤
Misfits None (Some word) = ⊤
Misfits (Some part) (Some word) = IsPart part word → ⊥

abbrev pub IsMisfitAt : Order → List (List ℕ) → ℕ → Type 0
IsMisfitAt o words place = Misfits (part_at o place) (slice_get words place)

-- what is told of a word that is missing, or isn't empty
abbrev pub wrong_text : ℕ → Option Part → List ℕ
wrong_text number (Some part) = codes "word " ++ (decimal number ++ (codes " must be " ++ part_text part))
wrong_text number None = codes "word " ++ (decimal number ++ codes " is too many")

-- what is told of one that is empty
abbrev pub empty_text : ℕ → List ℕ
empty_text number = codes "word " ++ (decimal number ++ codes " is empty: a blank before it is too many")

-- what is told of the word of that number, where this has to stand
abbrev pub misfit_text : ℕ → Option Part → Option (List ℕ) → List ℕ
misfit_text number part None = wrong_text number part
misfit_text number part (Some []) = empty_text number
misfit_text number part (Some (byte ∷ word)) = wrong_text number part

-- what stands before, between and behind the blanks
abbrev pub words_of : List ℕ → List (List ℕ)
words_of line = slice_split (λ byte. byte == 32) line

-- the same, and a colon
abbrev pub told_text : Order → List (List ℕ) → ℕ → List ℕ
told_text o words place = misfit_text (place + 1) (part_at o place) (slice_get words place) ++ codes ": "

-- it is told which of the words of a line of this order is wrong, and what it has to be; or nothing
abbrev pub IsWhyOf : Order → List (List ℕ) → List ℕ → Type 0
IsWhyOf o words text = (text ≡ []) ⊎ ((place : ℕ) × IsMisfitAt o words place × (text ≡ told_text o words place))

-- the same of a line
abbrev pub IsWhy : Order → List ℕ → List ℕ → Type 0
IsWhy o line text = (whole : Order) × ((whole ≡ o) ⊎ (whole ≡ order.Fill)) × IsWhyOf whole (words_of line) text
