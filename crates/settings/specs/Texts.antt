-- The text of settings, as `new-cluster` writes it.
use Rattle.std.specs.Prelude.{ℕ, ◌≡◌, ◌⊎◌, List, ◌∷◌, ◌++◌, [], Option, None, Some, codes, get_or, option_map, string_bytes}
use Rattle.std.specs.List.{flat_map}
use Rattle.std.specs.Fmt.{decimal}
use Rattle.hex.specs.Hex.{encode_lower}
use Rattle.terms_prelude.specs.Terms.{Header, Size}
use Rattle.toml.specs.Data.{Members}
use Rattle.settings.specs.Keys.{key_text}
use Rattle.settings.specs.Settings.{IsFault, IsSettings}
use Rattle.settings.specs.declared.fault.SettingsFault.{SettingsFault}
use Rattle.settings.specs.declared.fault.SettingsFault.TheVariants as fault
use Rattle.settings.specs.declared.address.Address.{Address}
use Rattle.settings.specs.declared.keys.Key.{Key}
use Rattle.settings.specs.declared.keys.Key.TheVariants.{Cluster, Desk, DeskSocket, Epochs, Journal, Listen, Me, N, Questions, Seed, T}
use Rattle.settings.specs.declared.document.Settings.{Settings}

-- the number of the host at that place
abbrev pub octet : Address → ℕ → List ℕ
octet address place = decimal (get_or address.octets place 0)

-- HOST:PORT, four numbers with points between them
abbrev pub address_text : Address → List ℕ
address_text address =
    octet address 0 ++ 46 ∷ (octet address 1 ++ 46 ∷ (octet address 2 ++ 46 ∷ (octet address 3 ++ 58 ∷ decimal address.port)))

-- the line of a peer, an entry of the array
abbrev pub peer_entry : Address → List ℕ
peer_entry peer = codes "    \"" ++ (address_text peer ++ codes "\",\n")

-- the line of a key with a number
abbrev pub number_line : Key → ℕ → List ℕ
number_line key number = key_text key ++ (codes " = " ++ (decimal number ++ codes "\n"))

-- the line of a key with a text
abbrev pub text_line : Key → List ℕ → List ℕ
text_line key value = key_text key ++ (codes " = \"" ++ (value ++ codes "\"\n"))

-- the line of a key with a text, where there is one
abbrev pub option_line : Key → Option (List ℕ) → List ℕ
option_line key None = []
option_line key (Some value) = text_line key value

-- the lines of a cluster's number and its size
abbrev pub sized_text : ℕ → Size → List ℕ
sized_text cluster size =
    ((number_line Cluster cluster ++ number_line N size.n) ++ number_line T size.t) ++ number_line Questions size.questions

-- the lines of the header
abbrev pub head_text : Header → List ℕ
head_text h = sized_text h.cluster h.size ++ number_line Me h.me

-- those of the keys that may be left out
abbrev pub options_text : Settings → List ℕ
options_text s =
    option_line Listen (option_map address_text s.listen)
    ++ (option_line DeskSocket (option_map string_bytes s.desk_socket) ++ option_line Epochs (option_map string_bytes s.epochs))

-- those of the desk and of the seed
abbrev pub own_text : Settings → List ℕ
own_text s =
    text_line Desk (address_text s.desk)
    ++ (codes "# Keep it secret: whoever knows the seed knows the member's coins.\n" ++ text_line Seed (encode_lower s.seed))

-- all lines
abbrev pub toml_text : Settings → List ℕ
toml_text s =
    head_text s.header ++ (text_line Journal (string_bytes s.journal)
    ++ (codes "peers = [\n" ++ (flat_map peer_entry s.peers.items ++ (codes "]\n" ++ (options_text s ++ own_text s)))))

-- settings of the same values
pub record IsLike (read s : Settings) : Type 0 where
  pub header : read.header ≡ s.header
  pub journal : string_bytes read.journal ≡ string_bytes s.journal
  pub peers : read.peers.items ≡ s.peers.items
  pub desk : read.desk ≡ s.desk
  pub seed : read.seed ≡ s.seed
  pub listen : read.listen ≡ s.listen
  pub desk_socket : option_map string_bytes read.desk_socket ≡ option_map string_bytes s.desk_socket
  pub epochs : option_map string_bytes read.epochs ≡ option_map string_bytes s.epochs

-- a document gives other settings than these
abbrev pub IsOfOthers : Option Members → Settings → Type 0
IsOfOthers document s = (read : Settings) × IsSettings document read × (IsLike read s → ⊥)

-- why settings aren't written as a text that is this document: it is at fault, it gives others, or memory was refused
abbrev pub IsUnwritten : Option Members → Settings → SettingsFault → Type 0
IsUnwritten document s ends = IsFault document ends ⊎ (((ends ≡ fault.Text) × IsOfOthers document s) ⊎ (ends ≡ fault.Memory))
