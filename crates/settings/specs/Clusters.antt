-- The settings of the members of a new cluster.
use Rattle.std.specs.Prelude.{ℕ, ◌≡◌, nat_lt, List, [], ◌∷◌, ◌++◌, None, Some, codes, if◌then◌else◌, slice_get, string_bytes, suc}
use Rattle.std.specs.Fmt.{decimal}
use Rattle.terms_prelude.specs.Terms.{Header}
use Rattle.settings.specs.Addresses.{IsHost}
use Rattle.settings.specs.declared.address.Address.{Address}
use Rattle.settings.specs.declared.document.Settings.{Settings}

-- the addresses are at these hosts, each at the port behind that of the one before
abbrev pub AreInRow : ℕ → List (List ℕ) → List Address → Type 0
AreInRow port [] [] = Unit {0}
AreInRow port [] (address ∷ addresses) = ⊥
AreInRow port (host ∷ hosts) [] = ⊥
AreInRow port (host ∷ hosts) (address ∷ addresses) = IsHost host address.octets × (address.port ≡ port) × AreInRow (suc port) hosts addresses

-- how many ports lie between the first link's and the first desk's in a cluster of n members
abbrev pub desk_gap : ℕ → ℕ
desk_gap n = if nat_lt 10 n then 100 else 10

-- the path of its journal
abbrev pub journal_text : ℕ → List ℕ
journal_text me = codes "member-" ++ (decimal me ++ codes ".journal")

-- the settings of the member of this header in a new cluster with these links and desks
pub record IsNewSettings (header : Header) (links desks : List Address) (seed : List ℕ) (s : Settings) : Type 0 where
  pub header_is : s.header ≡ header
  pub journal : string_bytes s.journal ≡ journal_text header.me
  pub peers : s.peers.items ≡ links
  pub own : slice_get desks header.me ≡ Some s.desk
  pub seed_is : s.seed ≡ seed
  pub listen : s.listen ≡ None
  pub desk_socket : s.desk_socket ≡ None
  pub epochs : s.epochs ≡ None
