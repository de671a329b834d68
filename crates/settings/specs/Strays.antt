-- Keys of a text of settings that are ignored.
use Rattle.std.specs.Prelude.{ℕ, Bool, true, false, ◌≡◌, Option, Some, None, List, [], ◌∷◌, ◌++◌, if◌then◌else◌, map, string_bytes}
use Rattle.std.specs.List.{list_any}
use Rattle.std.specs.Str.{bytes_eq}
use Rattle.toml.specs.Data.{Data, Members, no_members, member, table}
use Rattle.settings.specs.Keys.{key_text}
use Rattle.settings.specs.Settings.{keys}
use Rattle.settings.specs.declared.strays.Stray.{Stray}

-- it is the name of a member's key
abbrev pub is_known : List ℕ → Bool
is_known name = list_any (λ key. bytes_eq name (key_text key)) keys

-- a key's name, and whether it stands in a table
abbrev pub Named : Type 0
Named = List ℕ × Bool

abbrev pub named : Stray → Named
named stray = (string_bytes stray.name, stray.in_table)

-- a key that stands in no table, if it is none of a member's
abbrev pub alone : List ℕ → List Named
alone name = if is_known name then [] else (name, false) ∷ []

-- the keys of a table
abbrev pub inside : Members → List Named
inside no_members = []
inside (member name value ms) = (name, true) ∷ inside ms

-- what is ignored of a key and its value
abbrev pub strays_at : List ℕ → Data → List Named
strays_at name (table ms) = inside ms
strays_at name other = alone name

-- what is ignored of a text's keys
abbrev pub strays_in : Members → List Named
strays_in no_members = []
strays_in (member name value ms) = strays_at name value ++ strays_in ms

-- they are what is ignored of a document
abbrev pub AreStrays : Option Members → List Stray → Type 0
AreStrays None strays = ⊥
AreStrays (Some ms) strays = map named strays ≡ strays_in ms
