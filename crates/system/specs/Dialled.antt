-- Where the members of the settings are dialled.
use Rattle.std.specs.Prelude.{ℕ, ◌==◌, ◌&&◌, Bool, true, false, Option, Some, None, List, [], ◌∷◌, length, nat_lt, slice_get, slice_set, if◌then◌else◌}
use Rattle.settings.specs.declared.address.Address.{Address}

-- these four numbers are those of a host that stands for all of a machine's own addresses
abbrev pub everywhere : List ℕ → Bool
everywhere (a ∷ b ∷ c ∷ d ∷ []) = (a == 0) && ((b == 0) && ((c == 0) && (d == 0)))
everywhere octets = false

-- where a member dials itself that listens at this address: at 127.0.0.1 where it listens everywhere
abbrev pub own_address : Address → Address
own_address listen = if everywhere listen.octets then record { octets = 127 ∷ 0 ∷ 0 ∷ 1 ∷ []; port = listen.port } else listen

-- the peers, the own entry where the member dials itself
abbrev pub with_own : List Address → Address → ℕ → List Address
with_own peers listen me = if nat_lt me (length peers) then slice_set peers me (own_address listen) else peers

-- the same, if there is an address where the member listens
abbrev pub with_known : List Address → Option Address → ℕ → List Address
with_known peers (Some listen) me = with_own peers listen me
with_known peers None me = peers

-- where the members are dialled: at their entries of the peers, the own one where the member listens: at `listen` where that is said,
-- and else at its entry
abbrev pub dialled : List Address → Option Address → ℕ → List Address
dialled peers (Some listen) me = with_own peers listen me
dialled peers None me = with_known peers (slice_get peers me) me
