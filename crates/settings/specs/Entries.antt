-- What the keys say, each by itself.
use Rattle.std.specs.Prelude.{ℕ, ◌≡◌, ◌⊎◌, ◌==◌, nat_lt, Option, Some, None, List, length, if◌then◌else◌, option_map, string_bytes}
use Rattle.terms_prelude.specs.Terms.{new_size, size_fault, new_header, SizeFault}
use Rattle.settings.specs.declared.document.Settings.{Settings}
use Rattle.toml.specs.Data.{Members}
use Rattle.settings.specs.declared.keys.Key.{Key}
use Rattle.settings.specs.declared.keys.Key.TheVariants.{Cluster, N, T, Questions, Me, Journal, Peers, Desk, Seed, Listen, DeskSocket, Epochs}
use Rattle.settings.specs.declared.fault.SettingsFault.{SettingsFault}
use Rattle.settings.specs.declared.fault.SettingsFault.TheVariants as fault
use Rattle.settings.specs.declared.entries.Entries.{Entries}
use Rattle.settings.specs.Settings.{HasNumber, HasSmall, HasPath, HasAddress, HasAddresses, HasSeed, MayHaveAddress, MayHavePath, IsFirstBad}

-- the entries are what the keys say
pub record SaysEntries (ms : Members) (e : Entries) : Type 0 where
  pub cluster : HasNumber ms Cluster e.cluster
  pub n : HasSmall ms N e.n
  pub t : HasSmall ms T e.t
  pub questions : HasSmall ms Questions e.questions
  pub me : HasNumber ms Me e.me
  pub journal : HasPath ms Journal (string_bytes e.journal)
  pub peers : HasAddresses ms Peers e.peers.items
  pub desk : HasAddress ms Desk e.desk
  pub seed : HasSeed ms Seed e.seed
  pub listen : MayHaveAddress ms Listen e.listen
  pub desk_socket : MayHavePath ms DeskSocket (option_map string_bytes e.desk_socket)
  pub epochs : MayHavePath ms Epochs (option_map string_bytes e.epochs)

-- the fault names the key, which has no such value
abbrev pub IsLack : {A : Type 0} → Key → (A → Type 0) → SettingsFault → Type 0
IsLack {A} key Has ends = (ends ≡ fault.Key key) × ((value : A) → Has value → ⊥)

-- so it is, or memory was refused
abbrev pub IsLackOrMemory : {A : Type 0} → Key → (A → Type 0) → SettingsFault → Type 0
IsLackOrMemory key Has ends = IsLack key Has ends ⊎ (ends ≡ fault.Memory)

-- the fault names the first key of a list that has no value of its own, or memory was refused
abbrev pub IsOfFirst : List Key → Members → SettingsFault → Type 0
IsOfFirst all ms ends = ((key : Key) × (ends ≡ fault.Key key) × IsFirstBad all ms key) ⊎ (ends ≡ fault.Memory)

-- what is wrong with a member and peers of n members
abbrev pub misfit : ℕ → ℕ → ℕ → Option SettingsFault
misfit n me peers =
    if nat_lt me n then (if peers == n then None else Some (fault.Key Peers))
    else Some (fault.Key Me)

-- what is wrong with the size, or else with those
abbrev pub size_or : Option SizeFault → Option SettingsFault → Option SettingsFault
size_or (Some size) others = Some (fault.Size size)
size_or None others = others

-- the first thing in which the entries don't fit one another
abbrev pub unfit : Entries → Option SettingsFault
unfit e = size_or (size_fault e.n e.t e.questions) (misfit e.n e.me (length e.peers.items))

-- the settings have what the entries say
pub record FitsEntries (e : Entries) (s : Settings) : Type 0 where
  pub header : s.header ≡ new_header e.cluster (new_size e.n e.t e.questions) e.me
  pub journal : s.journal ≡ e.journal
  pub peers : s.peers ≡ e.peers
  pub desk : s.desk ≡ e.desk
  pub seed : s.seed ≡ e.seed
  pub listen : s.listen ≡ e.listen
  pub desk_socket : s.desk_socket ≡ e.desk_socket
  pub epochs : s.epochs ≡ e.epochs
