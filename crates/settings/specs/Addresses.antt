-- Texts HOST:PORT.
use Rattle.std.specs.Prelude.{ℕ, ◌≡◌, ◌≤◌, ◌⊎◌, List, [], ◌∷◌, ◌++◌, codes}
use Rattle.numerals.specs.Numbers.{IsBelow}
use Rattle.settings.specs.declared.address.Address.{Address}

-- decimal digits that write a number of one byte
abbrev pub IsOctet : List ℕ → ℕ → Type 0
IsOctet = IsBelow 8

-- they write the number of a port
pub record IsPort (digits : List ℕ) (port : ℕ) : Type 0 where
  pub number : IsBelow 16 digits port
  pub least : 1 ≤ port

-- the octets in decimal digits, with a point between each two
abbrev pub AreDotted : List ℕ → List ℕ → Type 0
AreDotted text [] = ⊥
AreDotted text (octet ∷ []) = IsOctet text octet
AreDotted text (octet ∷ next ∷ octets) =
    (digits : List ℕ) × (rest : List ℕ) × (text ≡ digits ++ 46 ∷ rest) × IsOctet digits octet × AreDotted rest (next ∷ octets)

-- `localhost`, which is 127.0.0.1, or four octets
abbrev pub IsHost : List ℕ → List ℕ → Type 0
IsHost text octets =
    ((text ≡ codes "localhost") × (octets ≡ 127 ∷ 0 ∷ 0 ∷ 1 ∷ []))
    ⊎ ((a : ℕ) × (b : ℕ) × (c : ℕ) × (d : ℕ) × (octets ≡ a ∷ b ∷ c ∷ d ∷ []) × AreDotted text (a ∷ b ∷ c ∷ d ∷ []))

-- the text is the host, a colon and the port of this address
pub record IsAddress (text : List ℕ) (address : Address) : Type 0 where
  pub host : List ℕ
  pub port : List ℕ
  pub whole : text ≡ host ++ 58 ∷ port
  pub host_is : IsHost host address.octets
  pub port_is : IsPort port address.port
