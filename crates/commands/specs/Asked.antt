-- What is asked of the value of a key of the settings, in words.
use Rattle.std.specs.Prelude.{ℕ, ◌≡◌, ◌≤◌, ◌⊎◌, Bool, not, List, ◌++◌, codes, length, take, slice_get, IsSomeAnd, Option, Some, None}
use Rattle.std.specs.List.{AllByRecursion, position_from}
use Rattle.std.specs.Char.{is_ascii_hexdigit}
use Rattle.std.specs.Fmt.{decimal}
use Rattle.toml.specs.Data.{Data, Members, Items, string, array, get_member}
use Rattle.toml.specs.Parse.{parse_document}
use Rattle.toml.specs.View.{view, items_view}
use Rattle.toml.specs.declared.value.Value.{Value}
use Rattle.settings.specs.declared.address.Address.{Address}
use Rattle.settings.specs.declared.keys.Key.{Key}
use Rattle.settings.specs.declared.keys.Key.TheVariants.{Cluster, N, T, Questions, Me, Journal, Peers, Desk, Seed, Listen, DeskSocket, Epochs, Desks, Chain}
use Rattle.commands.specs.TextLines.{IsFirstLine, SaysKey, lines_in}
use Rattle.settings.specs.Keys.{key_text}
use Rattle.settings.specs.Settings.{HasSmall, HasValue, IsAddressText}

-- what a value has to be
abbrev pub asked_text : Key → List ℕ
asked_text Cluster = codes "an integer from 0 on"
asked_text N = codes "an integer from 1 to 64"
asked_text T = codes "an integer from 0 on and below a third of n"
asked_text Questions = codes "an integer from 1 to 4096"
asked_text Me = codes "an integer from 0 on and below n"
asked_text Journal = codes "a path"
asked_text Peers = codes "an array of n texts HOST:PORT"
asked_text Desk = codes "localhost or four numbers with points between them, a colon and a port from 1 to 65535: no host names, no IPv6"
asked_text Seed = codes "a text of 64 hexadecimal digits"
asked_text Listen = codes "localhost or four numbers with points between them, a colon and a port from 1 to 65535: no host names, no IPv6"
asked_text DeskSocket = codes "a path"
asked_text Epochs = codes "a path"
asked_text Desks = codes "an array of n texts HOST:PORT"
asked_text Chain = codes "true or false"

-- the key, and what its value has to be
abbrev pub asked_words : Key → List ℕ
asked_words key = key_text key ++ (codes ": must be " ++ asked_text key)

-- a key that isn't there, or is in a table of the document
abbrev pub missing_words : Key → List ℕ
missing_words key = key_text key ++ codes ": is missing"

abbrev pub below_words : Key → List ℕ
below_words key = key_text key ++ codes ": stands below a table, and must stand above the first one"

-- an entry that names no address
abbrev pub NamesNone : Value → Type 0
NamesNone value = (address : Address) → IsAddressText (view value) address → ⊥

-- an entry that names one
abbrev pub NamesOne : Value → Type 0
NamesOne value = (address : Address) × IsAddressText (view value) address

-- the first of the entries that names no address, or none where each names one
abbrev pub IsFirstNone : List Value → Option ℕ → Type 0
IsFirstNone values None = AllByRecursion NamesOne values
IsFirstNone values (Some entry) = AllByRecursion NamesOne (take entry values) × IsSomeAnd (slice_get values entry) NamesNone

-- what an entry has to be
abbrev pub entry_words : Key → ℕ → List ℕ
entry_words key entry = key_text key ++ (codes ": entry " ++ (decimal entry ++ (codes " must be " ++ asked_text Desk)))

-- how many entries there are, and how many there have to be
abbrev pub count_words : Key → ℕ → ℕ → List ℕ
count_words key count n = key_text key ++ (codes ": there are " ++ (decimal count ++ (codes " entries, and must be " ++ decimal n)))

-- the array at the key has these values
abbrev pub HasArray : Members → Key → List Value → Type 0
HasArray ms key values = HasValue ms key (array (items_view values))

-- the words name the first entry that is wrong
pub record IsEntryWords (key : Key) (values : List Value) (words : List ℕ) : Type 0 where
  pub entry : ℕ
  pub first : IsFirstNone values (Some entry)
  pub is : words ≡ entry_words key entry

-- each entry is good, and the words say how many there are and have to be
pub record IsCountWords (key : Key) (ms : Members) (values : List Value) (words : List ℕ) : Type 0 where
  pub n : ℕ
  pub good : IsFirstNone values None
  pub number : HasSmall ms N n
  pub is : words ≡ count_words key (length values) n

-- the key has no array, or there is no number of members
abbrev pub LacksArray : Members → Key → Type 0
LacksArray ms key = (items : Items) → HasValue ms key (array items) → ⊥

abbrev pub LacksNumber : Members → Type 0
LacksNumber ms = (n : ℕ) → HasSmall ms N n → ⊥

-- what is said of an array of addresses: of an entry, or of their number, or what they have to be
abbrev pub IsArrayWords : Key → Members → List ℕ → Type 0
IsArrayWords key ms words =
    ((words ≡ asked_words key) × (LacksArray ms key ⊎ LacksNumber ms))
    ⊎ ((values : List Value) × HasArray ms key values × (IsEntryWords key values words ⊎ IsCountWords key ms values words))

-- no hexadecimal digit
abbrev pub is_other : ℕ → Bool
is_other byte = not (is_ascii_hexdigit byte)

-- how many digits there are, or bytes of which this one is the first that is no digit
abbrev pub digits_words : ℕ → Option ℕ → List ℕ
digits_words count None = codes "seed: there are " ++ (decimal count ++ codes " hexadecimal digits, and must be 64")
digits_words count (Some place) =
    codes "seed: there are " ++ (decimal count ++ (codes " bytes, and must be 64 hexadecimal digits: byte " ++ (decimal place ++ codes " is none")))

-- the seed is no text
abbrev pub LacksSeed : Members → Type 0
LacksSeed ms = (digits : List ℕ) → HasValue ms Seed (string digits) → ⊥

-- what is said of the seed, and never what it is
abbrev pub IsSeedWords : Members → List ℕ → Type 0
IsSeedWords ms words =
    ((words ≡ asked_words Seed) × LacksSeed ms)
    ⊎ ((digits : List ℕ) × HasValue ms Seed (string digits) × (words ≡ digits_words (length digits) (position_from is_other 0 digits)))

-- what is said of a key that the table of this text lacks
abbrev pub IsLackWords : Key → List ℕ → List ℕ → Type 0
IsLackWords key text words =
    (IsFirstLine (SaysKey (key_text key)) (lines_in text) None × (words ≡ missing_words key))
    ⊎ ((line : ℕ) × IsFirstLine (SaysKey (key_text key)) (lines_in text) (Some line) × (words ≡ below_words key))

-- what is said of a value that is wrong
abbrev pub IsValueWords : Key → Members → List ℕ → Type 0
IsValueWords Peers ms words = IsArrayWords Peers ms words
IsValueWords Desks ms words = IsArrayWords Desks ms words
IsValueWords Seed ms words = IsSeedWords ms words
IsValueWords Cluster ms words = words ≡ asked_words Cluster
IsValueWords N ms words = words ≡ asked_words N
IsValueWords T ms words = words ≡ asked_words T
IsValueWords Questions ms words = words ≡ asked_words Questions
IsValueWords Me ms words = words ≡ asked_words Me
IsValueWords Journal ms words = words ≡ asked_words Journal
IsValueWords Desk ms words = words ≡ asked_words Desk
IsValueWords Listen ms words = words ≡ asked_words Listen
IsValueWords DeskSocket ms words = words ≡ asked_words DeskSocket
IsValueWords Epochs ms words = words ≡ asked_words Epochs
IsValueWords Chain ms words = words ≡ asked_words Chain

-- what is said of a key in the table of this text
abbrev pub IsTableWords : Key → List ℕ → Members → List ℕ → Type 0
IsTableWords key text ms words =
    ((get_member (key_text key) ms ≡ None) × IsLackWords key text words)
    ⊎ ((value : Data) × HasValue ms key value × IsValueWords key ms words)

-- the same, where the text is a table
abbrev pub IsKeyWords : Key → List ℕ → Option Members → List ℕ → Type 0
IsKeyWords key text None words = ⊥
IsKeyWords key text (Some ms) words = IsTableWords key text ms words

-- what is said of a key of the settings in this text
abbrev pub IsSaidOfKey : Key → List ℕ → List ℕ → Type 0
IsSaidOfKey key text words = IsKeyWords key text (parse_document text) words
