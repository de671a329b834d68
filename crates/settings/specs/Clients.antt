-- What the members of a TOML table say of a client's settings, and the first thing that is wrong with them.
use Rattle.std.specs.Prelude.{ℕ, ◌≡◌, ◌⊎◌, ◌==◌, ◌&&◌, eqb, filter, nat_lt, not, Bool, true, false, Option, Some, None, List, [], ◌∷◌, ◌++◌, codes, length, if◌then◌else◌}
use Rattle.std.specs.Cmp.Lexicographic.{pointwise}
use Rattle.std.specs.List.{find, flat_map, list_any}
use Rattle.toml.specs.Data.{Members}
use Rattle.terms_prelude.specs.Terms.{new_size, size_fault}
use Rattle.settings.specs.declared.address.Address.{Address}
use Rattle.settings.specs.declared.client.ClientSettings.{ClientSettings}
use Rattle.settings.specs.declared.client_entries.ClientEntries.{ClientEntries}
use Rattle.settings.specs.declared.keys.Key.{Key}
use Rattle.settings.specs.declared.keys.Key.TheVariants.{Cluster, N, T, Questions, Desks, Chain}
use Rattle.settings.specs.declared.fault.SettingsFault.{SettingsFault}
use Rattle.settings.specs.declared.fault.SettingsFault.TheVariants as fault
use Rattle.settings.specs.Entries.{size_or}
use Rattle.settings.specs.Keys.{key_text}
use Rattle.settings.specs.Settings.{HasAddresses, HasNumber, HasSmall, IsFaultOf, IsOfMany, MayHaveFlag}
use Rattle.settings.specs.Texts.{peer_entry, sized_text}

-- a client's keys in the order in which they are looked at
abbrev pub client_keys : List Key
client_keys = Cluster ∷ N ∷ T ∷ Questions ∷ Desks ∷ Chain ∷ []

-- the entries are what the keys say
pub record SaysClientEntries (ms : Members) (e : ClientEntries) : Type 0 where
  pub cluster : HasNumber ms Cluster e.cluster
  pub n : HasSmall ms N e.n
  pub t : HasSmall ms T e.t
  pub questions : HasSmall ms Questions e.questions
  pub desks : HasAddresses ms Desks e.desks.items
  pub chain : MayHaveFlag ms Chain e.chain

-- two addresses have one host and one port
abbrev pub is_same : Address → Address → Bool
is_same a b = pointwise eqb a.octets b.octets && (a.port == b.port)

-- at how many places of the list the address stands
abbrev pub count_of : List Address → Address → ℕ
count_of desks desk = length (filter (is_same desk) desks)

-- an address stands at two places of the list, or more
abbrev pub stands_twice : List Address → Bool
stands_twice desks = list_any (λ desk. nat_lt 1 (count_of desks desk)) desks

-- the first that does
abbrev pub first_twice : List Address → Option Address
first_twice desks = find (λ desk. nat_lt 1 (count_of desks desk)) desks

-- there are n desks, and each is another one
abbrev pub are_desks_of : ℕ → List Address → Bool
are_desks_of n desks = (length desks == n) && not (stands_twice desks)

abbrev pub AreDesksOf : ℕ → List Address → Type 0
AreDesksOf n desks = (length desks ≡ n) × (stands_twice desks ≡ false)

-- what is wrong with desks of n members
abbrev pub desks_misfit : ℕ → List Address → Option SettingsFault
desks_misfit n desks = if are_desks_of n desks then None else Some (fault.Key Desks)

-- the first thing in which the entries don't fit one another
abbrev pub unfit_client : ClientEntries → Option SettingsFault
unfit_client e = size_or (size_fault e.n e.t e.questions) (desks_misfit e.n e.desks.items)

-- the settings have what the entries say
pub record FitsClientEntries (e : ClientEntries) (s : ClientSettings) : Type 0 where
  pub cluster : s.cluster ≡ e.cluster
  pub size : s.size ≡ new_size e.n e.t e.questions
  pub desks : s.desks ≡ e.desks
  pub chain : s.chain ≡ e.chain

-- the numbers make a size, and there aren't as many desks as members, or a desk stands twice
abbrev pub IsClientMisfit : Members → Key → Type 0
IsClientMisfit ms key =
    (key ≡ Desks) × (n : ℕ) × (desks : List Address) × IsOfMany client_keys ms n × HasAddresses ms Desks desks
    × (AreDesksOf n desks → ⊥)

-- what is wrong with a text that is this document, or no TOML at all. One of these is true at most
abbrev pub IsClientFault : Option Members → SettingsFault → Type 0
IsClientFault document ends = IsFaultOf client_keys IsClientMisfit document ends

-- the settings are what the keys say, and they fit one another
pub record GivesClients (ms : Members) (s : ClientSettings) : Type 0 where
  pub cluster : HasNumber ms Cluster s.cluster
  pub n : HasSmall ms N s.size.n
  pub t : HasSmall ms T s.size.t
  pub questions : HasSmall ms Questions s.size.questions
  pub lawful : size_fault s.size.n s.size.t s.size.questions ≡ None
  pub desks : HasAddresses ms Desks s.desks.items
  pub count : length s.desks.items ≡ s.size.n
  pub apart : stands_twice s.desks.items ≡ false
  pub chain : MayHaveFlag ms Chain s.chain

-- the document gives the settings
abbrev pub IsClientSettings : Option Members → ClientSettings → Type 0
IsClientSettings None s = ⊥
IsClientSettings (Some ms) s = GivesClients ms s

-- the document has this list of desks
abbrev pub ListsDesks : Option Members → List Address → Type 0
ListsDesks None desks = ⊥
ListsDesks (Some ms) desks = HasAddresses ms Desks desks

-- the line of a chain's clients; none of another cluster's
abbrev pub chain_line : Bool → List ℕ
chain_line false = []
chain_line true = key_text Chain ++ codes " = true\n"

-- the text of a client's settings
abbrev pub client_text : ClientSettings → List ℕ
client_text s =
    sized_text s.cluster s.size ++ (codes "desks = [\n" ++ (flat_map peer_entry s.desks.items ++ (codes "]\n" ++ chain_line s.chain)))

-- settings of the same values
pub record IsLikeClient (read s : ClientSettings) : Type 0 where
  pub cluster : read.cluster ≡ s.cluster
  pub size : read.size ≡ s.size
  pub desks : read.desks.items ≡ s.desks.items
  pub chain : read.chain ≡ s.chain

-- a document gives other settings than these
abbrev pub IsOfOtherClients : Option Members → ClientSettings → Type 0
IsOfOtherClients document s = (read : ClientSettings) × IsClientSettings document read × (IsLikeClient read s → ⊥)

-- why settings aren't written as a text that is this document: it is at fault, it gives others, or memory was refused
abbrev pub IsUnwrittenClient : Option Members → ClientSettings → SettingsFault → Type 0
IsUnwrittenClient document s ends = IsClientFault document ends ⊎ (((ends ≡ fault.Text) × IsOfOtherClients document s) ⊎ (ends ≡ fault.Memory))
