-- What the members of a TOML table say of a member's settings, and the first thing that is wrong with them.
use Rattle.std.specs.Prelude.{ℕ, pos, ◌≡◌, ◌≢◌, ◌<◌, ◌≤◌, ◌⊎◌, Bool, false, Option, Some, None, Ok, List, [], ◌∷◌, ◌++◌, length, option_map, string_bytes}
use Rattle.std.specs.List.{AllByRecursion}
use Rattle.toml.specs.Data.{Data, Items, Members, string, integer, boolean, array, no_items, item, get_member}
use Rattle.hex.specs.Hex.{decode_of}
use Rattle.terms_prelude.specs.Terms.{size_fault, SizeFault}
use Rattle.settings.specs.declared.address.Address.{Address}
use Rattle.settings.specs.declared.keys.Key.{Key}
use Rattle.settings.specs.declared.keys.Key.TheVariants.{Cluster, N, T, Questions, Me, Journal, Peers, Desk, Seed, Listen, DeskSocket, Epochs, Desks, Chain}
use Rattle.settings.specs.declared.document.Settings.{Settings}
use Rattle.settings.specs.declared.fault.SettingsFault.{SettingsFault}
use Rattle.settings.specs.declared.fault.SettingsFault.TheVariants as fault
use Rattle.settings.specs.Keys.{key_text}
use Rattle.settings.specs.Addresses.{IsAddress}

-- a member's keys in the order in which they are looked at
abbrev pub keys : List Key
keys = Cluster ∷ N ∷ T ∷ Questions ∷ Me ∷ Journal ∷ Peers ∷ Desk ∷ Seed ∷ Listen ∷ DeskSocket ∷ Epochs ∷ []

-- the key has this value
abbrev pub HasValue : Members → Key → Data → Type 0
HasValue ms key value = get_member (key_text key) ms ≡ Some value

-- an integer that isn't negative
abbrev pub HasNumber : Members → Key → ℕ → Type 0
HasNumber ms key number = HasValue ms key (integer (pos number))

-- an integer from 0 to 65535
abbrev pub HasSmall : Members → Key → ℕ → Type 0
HasSmall ms key number = HasNumber ms key number × (number ≤ 65535)

-- a text that isn't empty
abbrev pub HasPath : Members → Key → List ℕ → Type 0
HasPath ms key path = HasValue ms key (string path) × (0 < length path)

-- the value is a text that names an address
abbrev pub IsAddressText : Data → Address → Type 0
IsAddressText value address = (text : List ℕ) × (value ≡ string text) × IsAddress text address

abbrev pub HasAddress : Members → Key → Address → Type 0
HasAddress ms key address = (text : List ℕ) × HasValue ms key (string text) × IsAddress text address

-- each item is the text of the address at its place
abbrev pub AreAddresses : Items → List Address → Type 0
AreAddresses no_items [] = Unit {0}
AreAddresses no_items (address ∷ addresses) = ⊥
AreAddresses (item value items) [] = ⊥
AreAddresses (item value items) (address ∷ addresses) = IsAddressText value address × AreAddresses items addresses

-- an array of such texts
abbrev pub HasAddresses : Members → Key → List Address → Type 0
HasAddresses ms key addresses = (items : Items) × HasValue ms key (array items) × AreAddresses items addresses

-- a text of 64 hexadecimal digits, of either case, that write these 32 bytes
abbrev pub HasSeed : Members → Key → List ℕ → Type 0
HasSeed ms key seed = (digits : List ℕ) × HasValue ms key (string digits) × (length digits ≡ 64) × (decode_of digits ≡ Ok seed)

-- an address, where the table has the key
abbrev pub MayHaveAddress : Members → Key → Option Address → Type 0
MayHaveAddress ms key None = get_member (key_text key) ms ≡ None
MayHaveAddress ms key (Some address) = HasAddress ms key address

-- a text that isn't empty, where the table has the key
abbrev pub MayHavePath : Members → Key → Option (List ℕ) → Type 0
MayHavePath ms key None = get_member (key_text key) ms ≡ None
MayHavePath ms key (Some path) = HasPath ms key path

-- a boolean; false where the table hasn't the key
abbrev pub MayHaveFlag : Members → Key → Bool → Type 0
MayHaveFlag ms key flag = HasValue ms key (boolean flag) ⊎ ((get_member (key_text key) ms ≡ None) × (flag ≡ false))

-- the key has a value of its own type and range
abbrev pub Suits : Members → Key → Type 0
Suits ms Cluster = (number : ℕ) × HasNumber ms Cluster number
Suits ms N = (number : ℕ) × HasSmall ms N number
Suits ms T = (number : ℕ) × HasSmall ms T number
Suits ms Questions = (number : ℕ) × HasSmall ms Questions number
Suits ms Me = (number : ℕ) × HasNumber ms Me number
Suits ms Journal = (path : List ℕ) × HasPath ms Journal path
Suits ms Peers = (addresses : List Address) × HasAddresses ms Peers addresses
Suits ms Desk = (address : Address) × HasAddress ms Desk address
Suits ms Seed = (seed : List ℕ) × HasSeed ms Seed seed
Suits ms Listen = (address : Option Address) × MayHaveAddress ms Listen address
Suits ms DeskSocket = (path : Option (List ℕ)) × MayHavePath ms DeskSocket path
Suits ms Epochs = (path : Option (List ℕ)) × MayHavePath ms Epochs path
Suits ms Desks = (addresses : List Address) × HasAddresses ms Desks addresses
Suits ms Chain = (flag : Bool) × MayHaveFlag ms Chain flag

-- all keys of a list have
abbrev pub AllSuit : List Key → Members → Type 0
AllSuit all ms = AllByRecursion (Suits ms) all

-- this key of a list hasn't, and all before it have
pub record IsFirstBad (all : List Key) (ms : Members) (key : Key) : Type 0 where
  pub before : List Key
  pub behind : List Key
  pub order : all ≡ before ++ key ∷ behind
  pub good : AllByRecursion (Suits ms) before
  pub bad : Suits ms key → ⊥

-- all keys have, and these are the numbers of a size
pub record HasNumbers (all : List Key) (ms : Members) (n t questions : ℕ) : Type 0 where
  pub suit : AllSuit all ms
  pub n_is : HasNumber ms N n
  pub t_is : HasNumber ms T t
  pub questions_is : HasNumber ms Questions questions

-- the numbers make no size
abbrev pub IsBadSize : List Key → Members → SizeFault → Type 0
IsBadSize all ms fault =
    (n : ℕ) × (t : ℕ) × (questions : ℕ) × HasNumbers all ms n t questions × (size_fault n t questions ≡ Some fault)

-- they make one of n members
abbrev pub IsOfMany : List Key → Members → ℕ → Type 0
IsOfMany all ms n = (t : ℕ) × (questions : ℕ) × HasNumbers all ms n t questions × (size_fault n t questions ≡ None)

-- they make one, and this key's value doesn't fit it: there is no such member, or else there aren't as many peers
abbrev pub IsMisfit : Members → Key → Type 0
IsMisfit ms Cluster = ⊥
IsMisfit ms N = ⊥
IsMisfit ms T = ⊥
IsMisfit ms Questions = ⊥
IsMisfit ms Me = (n : ℕ) × (me : ℕ) × IsOfMany keys ms n × HasNumber ms Me me × (n ≤ me)
IsMisfit ms Journal = ⊥
IsMisfit ms Peers =
    (n : ℕ) × (me : ℕ) × (peers : List Address)
    × IsOfMany keys ms n × HasNumber ms Me me × (me < n) × HasAddresses ms Peers peers × (length peers ≢ n)
IsMisfit ms Desk = ⊥
IsMisfit ms Seed = ⊥
IsMisfit ms Listen = ⊥
IsMisfit ms DeskSocket = ⊥
IsMisfit ms Epochs = ⊥
IsMisfit ms Desks = ⊥
IsMisfit ms Chain = ⊥

-- what is wrong with a text that is this document, or no TOML at all, where these are its keys and so they fit one another. One
-- of these is true at most. Memory isn't any of the text's faults
abbrev pub IsFaultOf : List Key → (Members → Key → Type 0) → Option Members → SettingsFault → Type 0
IsFaultOf all Misfit None fault.Text = Unit {0}
IsFaultOf all Misfit None (fault.Key key) = ⊥
IsFaultOf all Misfit None (fault.Size fault) = ⊥
IsFaultOf all Misfit None fault.Memory = ⊥
IsFaultOf all Misfit (Some ms) fault.Text = ⊥
IsFaultOf all Misfit (Some ms) (fault.Key key) = IsFirstBad all ms key ⊎ Misfit ms key
IsFaultOf all Misfit (Some ms) (fault.Size fault) = IsBadSize all ms fault
IsFaultOf all Misfit (Some ms) fault.Memory = ⊥

-- what is wrong with a member's
abbrev pub IsFault : Option Members → SettingsFault → Type 0
IsFault document ends = IsFaultOf keys IsMisfit document ends

-- the settings are what the keys say, and they fit one another
pub record GivesSettings (ms : Members) (s : Settings) : Type 0 where
  pub cluster : HasNumber ms Cluster s.header.cluster
  pub n : HasSmall ms N s.header.size.n
  pub t : HasSmall ms T s.header.size.t
  pub questions : HasSmall ms Questions s.header.size.questions
  pub lawful : size_fault s.header.size.n s.header.size.t s.header.size.questions ≡ None
  pub me : HasNumber ms Me s.header.me
  pub below : s.header.me < s.header.size.n
  pub journal : HasPath ms Journal (string_bytes s.journal)
  pub peers : HasAddresses ms Peers s.peers.items
  pub count : length s.peers.items ≡ s.header.size.n
  pub desk : HasAddress ms Desk s.desk
  pub seed : HasSeed ms Seed s.seed
  pub listen : MayHaveAddress ms Listen s.listen
  pub desk_socket : MayHavePath ms DeskSocket (option_map string_bytes s.desk_socket)
  pub epochs : MayHavePath ms Epochs (option_map string_bytes s.epochs)

-- the document gives the settings
abbrev pub IsSettings : Option Members → Settings → Type 0
IsSettings None s = ⊥
IsSettings (Some ms) s = GivesSettings ms s
